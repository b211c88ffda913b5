-- The next operand reads what is there.
use Rattle.std.proofs.Common.{length}
use Rattle.sql_tree.specs.Operands.{operand_of}
use Rattle.sql_tree.specs.Placed.{IsPlaced}
use Rattle.operators.proofs.Interface.{All_there}
use Rattle.row_lookups.proofs.keys.key_at.Goals as goal

pub worth-requires : goal.worth-requires
worth-requires g c =
    All_there (IsPlaced (length c.args.row.now) (length c.args.params.now)) (λ v. operand_of v.now) c.args.values.now
    c.loop-value.value-index c.value-item.result c.loop-value-test.true c.value-item.is c.requires
