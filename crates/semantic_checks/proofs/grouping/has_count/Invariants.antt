-- None so far is one.
use Rattle.std.proofs.Common.{◌≡◌, drop, map}
use Rattle.std.specs.List.{list_any}
use Rattle.sql_tree.specs.Bound as bound
use Rattle.semantic_checks.specs.Grouping.{counts}
use Rattle.semantic_checks.proofs.grouping.has_count.Given as goal

abbrev pub invariant-loop-item : goal.invariant-loop-item
invariant-loop-item l =
    list_any (counts) (map bound.item_of l.items) ≡ list_any (counts) (map bound.item_of (drop l.item-index l.items))
