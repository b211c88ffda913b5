-- What is there, with what the others add, is the whole.
use Rattle.std.proofs.Common.{◌≡◌, ◌++◌, drop, map}
use Rattle.std.specs.List.{flat_map}
use Rattle.sql_tree.specs.Bound as bound
use Rattle.semantic_checks.specs.Grouping.{item_ungrouped}
use Rattle.semantic_checks.proofs.grouping.items_ungrouped.Given as goal

abbrev pub invariant-loop-item : goal.invariant-loop-item
invariant-loop-item l =
    l.found ++ flat_map (item_ungrouped l.keys) (map bound.item_of (drop l.item-index l.items))
    ≡ l.fn.found ++ flat_map (item_ungrouped l.keys) (map bound.item_of l.items)
