-- Those bound so far stand before the others.
use Rattle.std.proofs.Common.{◌≡◌, drop}
use Rattle.ae_base.specs.Results.{each}
use Rattle.expression_binding.proofs.Interface.{onto}
use Rattle.resolve.specs.Queries.{bind_column_at}
use Rattle.expression_binding.specs.Seen.{scope_seen}
use Rattle.resolve.proofs.queries.bind_columns.Given as goal

abbrev pub invariant-loop-column : goal.invariant-loop-column
invariant-loop-column l =
    each (bind_column_at (scope_seen l.scope)) l.columns
    ≡ onto l.list (each (bind_column_at (scope_seen l.scope)) (drop l.column-index l.columns))
