-- An item lies where all do.
use Rattle.std.proofs.Common.{length, map, sym, subst}
use Rattle.std.specs.List.{All}
use Rattle.sql_tree.specs.Bound.{BoundItem, item_of}
use Rattle.sql_tree.specs.Placed.{IsPlacedValue}
use Rattle.operators.proofs.Interface.{All_there}
use Rattle.query_results.proofs.queries.check_row.Goals as goal

pub check_item-requires : goal.check_item-requires
check_item-requires g c =
    let P = λ (item : BoundItem). IsPlacedValue (length c.args.row.now) (length c.args.params.now) item.value in
    let items = c.as_slice-item-items.result.now in
    rw c.whole-row.ensures
    (All_there P item_of items c.loop-item.item-index c.item-item.result c.loop-item-test.true c.item-item.is (subst (λ is. All P (map item_of is)) (sym c.as_slice-item-items.ensures) c.requires))
