use Rattle.aes_block.proofs.States.{state_of-substituted}
use Rattle.aes_block.proofs.state.substituted.Goals as goal

pub returns : goal.returns
returns c = state_of-substituted c.args.s _ _ _ _ c.substituted_column.ensures c.substituted_column-2.ensures c.substituted_column-3.ensures c.substituted_column-4.ensures
