-- The row so far, with the columns that are left, is the whole.
use Rattle.std.proofs.Common.{◌≡◌, drop}
use Rattle.row_changes.specs.Rows.{completed}
use Rattle.operators.proofs.Interface.{collected}
use Rattle.row_changes.proofs.inserts.completed.Given as goal

abbrev pub invariant-loop-place : goal.invariant-loop-place
invariant-loop-place g l = completed 0 l.given l.columns ≡ collected l.row (completed l.place l.given (drop l.place l.columns))
