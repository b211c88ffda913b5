use Rattle.std.proofs.Common.{◌+◌, ◌*◌, ◌∙◌, add-zero, arith, refl}
use Rattle.aes_block.specs.Columns.{state_of, word_of}
use Rattle.aes_block.specs.RoundKeys.{round_key}
use Rattle.aes_block.proofs.States.{word-words_of}
use Rattle.aes_block.proofs.round_keys.round_key.Goals as goal

pub returns : goal.returns
unfolding state_of word_of round_key
returns c =
    let at = word-words_of c.args.words.now in
    c.block_of.ensures
    ∙ rw (
      at (4 * c.args.round + 0) (omega arith),
      at (4 * c.args.round + 1) (omega arith),
      at (4 * c.args.round + 2) (omega arith),
      at (4 * c.args.round + 3) (omega arith),
      add-zero (4 * c.args.round),
    ) refl
