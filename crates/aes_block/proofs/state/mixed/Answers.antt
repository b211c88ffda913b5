use Rattle.aes_block.proofs.States.{state_of-mixed}
use Rattle.aes_block.proofs.state.mixed.Goals as goal

pub returns : goal.returns
returns c =
    state_of-mixed c.args.words.now c.args.s c.args.round _ _ _ _ c.told-words c.requires
    c.mixed_column.ensures c.mixed_column-2.ensures c.mixed_column-3.ensures c.mixed_column-4.ensures
