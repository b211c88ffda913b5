-- Those bound so far stand before the others.
use Rattle.std.proofs.Common.{◌≡◌, drop, map}
use Rattle.expression_binding.specs.Walks.{each_from}
use Rattle.expression_binding.proofs.Interface.{onto}
use Rattle.sql_tree.specs.Bound as bound
use Rattle.sql_tree.specs.Statements as tree
use Rattle.resolve.specs.Changes.{nth_assignment}
use Rattle.expression_binding.specs.Seen.{scope_seen}
use Rattle.resolve.proofs.changes.bind_assignments.Given as goal

abbrev pub invariant-loop-i : goal.invariant-loop-i
invariant-loop-i l =
    each_from (nth_assignment l.declarations l.def (scope_seen l.scope) (map tree.assignment_of l.assignments)) 0 (map tree.assignment_of l.assignments)
    ≡ onto (map bound.assignment_of l.list)
    (each_from (nth_assignment l.declarations l.def (scope_seen l.scope) (map tree.assignment_of l.assignments)) l.i (map tree.assignment_of (drop l.i l.assignments)))
