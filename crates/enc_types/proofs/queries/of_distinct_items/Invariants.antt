-- What is there, with the rules of the items that are left, is the whole.
use Rattle.std.proofs.Common.{◌≡◌, ◌++◌, drop, map}
use Rattle.sql_tree.specs.Bound.{item_of}
use Rattle.enc_types.specs.Rules.{site_of_item}
use Rattle.enc_types.specs.declared.rules.Rule.TheVariants.{NotRnd}
use Rattle.enc_types.proofs.queries.of_distinct_items.Given as goal

abbrev pub invariant-loop-item : goal.invariant-loop-item
invariant-loop-item l =
    l.rules ++ map (λ item. NotRnd (site_of_item item.value) l.at) (map item_of (drop l.item-index l.items)) ≡
    l.initial.rules ++ map (λ item. NotRnd (site_of_item item.value) l.at) (map item_of l.items)
