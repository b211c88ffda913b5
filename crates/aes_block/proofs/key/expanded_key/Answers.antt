use Rattle.std.proofs.Common.{◌∙◌, arith}
use Rattle.std.proofs.lemmas.List.{length-set}
use Rattle.aes_block.proofs.Expansion.{key_words-more}
use Rattle.aes_block.proofs.key.expanded_key.Goals as goal

pub loop-i-preserved : goal.loop-i-preserved
loop-i-preserved c = record {
  long = length-set c.loop-i.words c.loop-i.i c.next_word.result ∙ c.loop-i.invariant.long;
  so_far = key_words-more c.args.key.now c.loop-i.words c.loop-i.i c.next_word.result (omega arith) (omega arith) c.next_word.ensures c.loop-i.invariant.so_far;
}
