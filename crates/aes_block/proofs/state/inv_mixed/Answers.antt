use Rattle.aes_block.proofs.States.{state_of-inv_mixed}
use Rattle.aes_block.proofs.state.inv_mixed.Goals as goal

pub returns : goal.returns
returns c =
    state_of-inv_mixed c.args.words.now c.args.s c.args.round _ _ _ _ c.told-words c.requires
    c.inv_mixed_column.ensures c.inv_mixed_column-2.ensures c.inv_mixed_column-3.ensures c.inv_mixed_column-4.ensures
