-- An operand of the list lies where all do.
use Rattle.std.proofs.Common.{arith}
use Rattle.scalar.proofs.Junctions.{operand_within}
use Rattle.scalar.proofs.conditions.equals_one.Goals as goal

pub lend-requires : goal.lend-requires
lend-requires g c = operand_within _ _ c.args.list.now c.loop-operand.operand-index c.operand-item.result (omega arith) c.operand-item.is c.requires
