use Rattle.std.proofs.Common.{◌≡◌, length, map, take}
use Rattle.std.specs.List.{range_with_len}
use Rattle.aes_block.specs.Aes.{key_word}
use Rattle.aes_block.proofs.key.first_words.Given as goal

abbrev pub invariant-loop-i : goal.invariant-loop-i
invariant-loop-i l = record {
  long : length l.words ≡ 60;
  so_far : take l.i l.words ≡ map (key_word l.key) (range_with_len 0 l.i);
}
