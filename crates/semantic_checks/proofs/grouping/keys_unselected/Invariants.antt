-- What is there, with what the others add, is the whole.
use Rattle.std.proofs.Common.{◌≡◌, ◌++◌, drop, map}
use Rattle.std.specs.List.{flat_map}
use Rattle.sql_tree.specs.Bound as bound
use Rattle.semantic_checks.specs.Grouping.{key_unselected}
use Rattle.semantic_checks.proofs.grouping.keys_unselected.Given as goal

abbrev pub invariant-loop-key : goal.invariant-loop-key
invariant-loop-key l =
    l.found ++ flat_map (key_unselected (map bound.item_of l.items)) (drop l.key-index l.keys)
    ≡ l.fn.found ++ flat_map (key_unselected (map bound.item_of l.items)) l.keys
