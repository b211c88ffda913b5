-- Those bound so far stand before the others.
use Rattle.std.proofs.Common.{◌≡◌, drop, map}
use Rattle.ae_base.specs.Results.{each}
use Rattle.expression_binding.proofs.Interface.{onto}
use Rattle.sql_tree.specs.Bound as bound
use Rattle.sql_tree.specs.Statements as tree
use Rattle.resolve.specs.Queries.{bind_item}
use Rattle.expression_binding.specs.Seen.{scope_seen}
use Rattle.resolve.proofs.queries.bind_list.Given as goal

abbrev pub invariant-loop-item : goal.invariant-loop-item
invariant-loop-item l =
    each (bind_item (scope_seen l.scope) l.declarations) (map tree.item_of l.items)
    ≡ onto (map bound.item_of l.list) (each (bind_item (scope_seen l.scope) l.declarations) (map tree.item_of (drop l.item-index l.items)))
