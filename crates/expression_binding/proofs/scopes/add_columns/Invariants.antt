-- The columns so far stand before the others.
use Rattle.std.proofs.Common.{◌≡◌, ◌++◌, drop, map}
use Rattle.expression_binding.specs.Scopes.{columns_under}
use Rattle.expression_binding.specs.Seen.{column_seen}
use Rattle.expression_binding.proofs.scopes.add_columns.Given as goal

abbrev pub invariant-loop-column : goal.invariant-loop-column
invariant-loop-column l =
    map column_seen l.found ++ columns_under l.visible (drop l.column-index l.columns) ≡ map column_seen l.fn.found ++ columns_under l.visible l.columns
