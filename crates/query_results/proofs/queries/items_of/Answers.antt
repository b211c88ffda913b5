-- An item lies where all do.
use Rattle.std.proofs.Common.{length}
use Rattle.sql_tree.specs.Bound.{BoundItem, item_of}
use Rattle.sql_tree.specs.Placed.{IsPlacedValue}
use Rattle.operators.proofs.Interface.{All_there}
use Rattle.query_results.proofs.queries.items_of.Goals as goal

pub item_of-requires : goal.item_of-requires
item_of-requires g c =
    All_there (λ (item : BoundItem). IsPlacedValue (length c.args.row.now) (length c.args.params.now) item.value)
    item_of c.args.items.now c.loop-item.item-index c.item-item.result c.loop-item-test.true c.item-item.is c.requires
