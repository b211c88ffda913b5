-- What is there, with what the others add, is the whole.
use Rattle.std.proofs.Common.{◌≡◌, ◌++◌, drop, map}
use Rattle.std.specs.List.{flat_map}
use Rattle.sql_tree.specs.Bound as bound
use Rattle.semantic_checks.specs.Clashes.{join_clashes}
use Rattle.semantic_checks.specs.Types.{types_seen}
use Rattle.semantic_checks.proofs.clashes.joins_clashes.Given as goal

abbrev pub invariant-loop-join : goal.invariant-loop-join
invariant-loop-join l =
    l.found ++ flat_map (join_clashes (types_seen l.types)) (map bound.join_of (drop l.join-index l.joins))
    ≡ l.fn.found ++ flat_map (join_clashes (types_seen l.types)) (map bound.join_of l.joins)
