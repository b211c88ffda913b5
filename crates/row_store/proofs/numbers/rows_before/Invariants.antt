-- The rows of the pages so far.
use Rattle.std.proofs.Common.{◌≡◌}
use Rattle.row_store.specs.Paged.{rows_before, values}
use Rattle.row_store.proofs.numbers.rows_before.Given as goal

abbrev pub invariant-loop-i : goal.invariant-loop-i
invariant-loop-i l = l.before ≡ rows_before l.i (values l.pages)
