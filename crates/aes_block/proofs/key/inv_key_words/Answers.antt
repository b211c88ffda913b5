use Rattle.std.proofs.Common.{◌∙◌, ◌≡◌, arith, sym}
use Rattle.std.proofs.lemmas.List.{length-map, length-set, take_all}
use Rattle.aes_block.specs.Columns.{word_of, words_of}
use Rattle.aes_block.proofs.Equivalence.{inv_key_words-all, inv_key_words-more}
use Rattle.aes_block.proofs.key.inv_key_words.Goals as goal

pub loop-i-preserved : goal.loop-i-preserved
loop-i-preserved c = record {
  long = length-set c.loop-i.inverse c.loop-i.i c.inv_key_word.result ∙ c.loop-i.invariant.long;
  so_far = inv_key_words-more (words_of c.args.words.now) c.loop-i.inverse c.loop-i.i c.inv_key_word.result (omega arith) c.inv_key_word.ensures c.loop-i.invariant.so_far;
}

pub returns : goal.returns
returns c =
    let all : c.loop-i.i ≡ 60 = omega arith in
    let so_far = rw all at c.loop-i.invariant.so_far in
    sym (take_all 60 (words_of c.loop-i.inverse) (omega (arith, length-map c.loop-i.inverse word_of, c.loop-i.invariant.long)))
    ∙ so_far ∙ inv_key_words-all (words_of c.args.words.now)
