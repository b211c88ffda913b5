use Rattle.std.proofs.Common.{◌≡◌, ◌-◌, length, take}
use Rattle.aes_block.specs.Aes.{key_words}
use Rattle.aes_block.proofs.key.expanded_key.Given as goal

abbrev pub invariant-loop-i : goal.invariant-loop-i
invariant-loop-i l = record {
  long : length l.words ≡ 60;
  so_far : take l.i l.words ≡ key_words l.key (l.i - 8);
}
