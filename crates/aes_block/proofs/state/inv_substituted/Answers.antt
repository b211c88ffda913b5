use Rattle.aes_block.proofs.States.{state_of-inv_substituted}
use Rattle.aes_block.proofs.state.inv_substituted.Goals as goal

pub returns : goal.returns
returns c = state_of-inv_substituted c.args.s _ _ _ _ c.inv_substituted_column.ensures c.inv_substituted_column-2.ensures c.inv_substituted_column-3.ensures c.inv_substituted_column-4.ensures
