-- The values so far, with those that are left, are the whole.
use Rattle.std.proofs.Common.{◌≡◌, drop, map}
use Rattle.sql_tree.specs.Bound.{assignment_of}
use Rattle.row_changes.specs.Changes.{set_values}
use Rattle.operators.proofs.Interface.{collected}
use Rattle.row_changes.proofs.updates.assigned.Given as goal

abbrev pub invariant-loop-assignment : goal.invariant-loop-assignment
invariant-loop-assignment g l =
    set_values l.columns l.row l.params (map assignment_of l.assignments) ≡ collected l.given (set_values l.columns l.row l.params (map assignment_of (drop l.assignment-index l.assignments)))
