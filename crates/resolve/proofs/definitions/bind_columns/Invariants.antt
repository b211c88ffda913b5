-- Those bound so far stand before the others.
use Rattle.std.proofs.Common.{◌≡◌, drop}
use Rattle.expression_binding.specs.Walks.{each_from}
use Rattle.expression_binding.proofs.Interface.{onto}
use Rattle.resolve.specs.Definitions.{bind_column}
use Rattle.resolve.proofs.definitions.bind_columns.Given as goal

abbrev pub invariant-loop-i : goal.invariant-loop-i
invariant-loop-i l =
    each_from (bind_column l.catalog l.columns) 0 l.columns
    ≡ onto l.defs (each_from (bind_column l.catalog l.columns) l.i (drop l.i l.columns))
