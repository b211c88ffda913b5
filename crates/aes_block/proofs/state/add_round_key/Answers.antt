use Rattle.aes_block.proofs.States.{state_of-added}
use Rattle.aes_block.proofs.state.add_round_key.Goals as goal

pub returns : goal.returns
returns c = state_of-added c.args.words.now c.args.s c.args.round c.told-words c.requires
