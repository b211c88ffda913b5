-- The sites so far stand before the others.
use Rattle.std.proofs.Common.{◌≡◌, ◌++◌, drop, map}
use Rattle.sql_tree.specs.Placed.{site_of}
use Rattle.resolve.proofs.statements.add_sites.Given as goal

abbrev pub invariant-loop-column : goal.invariant-loop-column
invariant-loop-column l =
    l.sites ++ map site_of (drop l.column-index l.columns) ≡ l.fn.sites ++ map site_of l.columns
