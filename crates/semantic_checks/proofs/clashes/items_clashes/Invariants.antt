-- What is there, with what the others add, is the whole.
use Rattle.std.proofs.Common.{◌≡◌, ◌++◌, drop, map}
use Rattle.std.specs.List.{flat_map}
use Rattle.sql_tree.specs.Bound as bound
use Rattle.semantic_checks.specs.Clashes.{item_clashes}
use Rattle.semantic_checks.specs.Types.{types_seen}
use Rattle.semantic_checks.proofs.clashes.items_clashes.Given as goal

abbrev pub invariant-loop-item : goal.invariant-loop-item
invariant-loop-item l =
    l.found ++ flat_map (item_clashes (types_seen l.types)) (map bound.item_of (drop l.item-index l.items))
    ≡ l.fn.found ++ flat_map (item_clashes (types_seen l.types)) (map bound.item_of l.items)
