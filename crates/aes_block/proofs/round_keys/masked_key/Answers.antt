use Rattle.std.proofs.Common.{◌∙◌, sym, ap, arith}
use Rattle.aes_block.specs.Columns.{words_of}
use Rattle.aes_block.specs.RoundKeys.{masked}
use Rattle.aes_block.proofs.PlaneRounds.{masked_key-inner, masked_key-last}
use Rattle.aes_block.proofs.round_keys.masked_key.Goals as goal

pub returns-then-round-eq0 : goal.returns-then-round-eq0
returns-then-round-eq0 c =
    rw c.if-round-eq0.true (rw c.if-round-eq0.true at c.round_key-key.ensures ∙ sym (masked_key-last (words_of c.args.words.now)))

pub returns-else-round-eq0 : goal.returns-else-round-eq0
returns-else-round-eq0 c =
    c.masked.ensures ∙ ap masked c.round_key-key.ensures ∙ sym (masked_key-inner (words_of c.args.words.now) c.args.round (omega arith))
