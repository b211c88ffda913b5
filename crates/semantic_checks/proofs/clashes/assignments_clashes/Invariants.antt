-- What is there, with what the others add, is the whole.
use Rattle.std.proofs.Common.{◌≡◌, ◌++◌, drop, map}
use Rattle.std.specs.List.{flat_map}
use Rattle.sql_tree.specs.Bound as bound
use Rattle.semantic_checks.specs.Clashes.{assignment_clashes}
use Rattle.semantic_checks.specs.Types.{types_seen}
use Rattle.semantic_checks.proofs.clashes.assignments_clashes.Given as goal

abbrev pub invariant-loop-assignment : goal.invariant-loop-assignment
invariant-loop-assignment l =
    l.found ++ flat_map (assignment_clashes (types_seen l.types)) (map bound.assignment_of (drop l.assignment-index l.assignments))
    ≡ l.fn.found ++ flat_map (assignment_clashes (types_seen l.types)) (map bound.assignment_of l.assignments)
