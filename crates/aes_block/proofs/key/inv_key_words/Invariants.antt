use Rattle.std.proofs.Common.{◌≡◌, length, map, take}
use Rattle.std.specs.List.{range_with_len}
use Rattle.aes_block.specs.Columns.{words_of}
use Rattle.aes_block.specs.Equivalent.{inv_key_word}
use Rattle.aes_block.proofs.key.inv_key_words.Given as goal

abbrev pub invariant-loop-i : goal.invariant-loop-i
invariant-loop-i l = record {
  long : length l.inverse ≡ 60;
  so_far : take l.i (words_of l.inverse) ≡ map (inv_key_word (words_of l.words)) (range_with_len 0 l.i);
}
