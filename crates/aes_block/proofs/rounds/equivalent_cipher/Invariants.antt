use Rattle.std.proofs.Common.{◌≡◌, ◌-◌, ◌≤◌}
use Rattle.aes_block.specs.Equivalent.{equivalent_rounds}
use Rattle.aes_block.specs.Columns.{state_of, words_of}
use Rattle.aes_block.proofs.rounds.equivalent_cipher.Given as goal

abbrev pub invariant-loop-round : goal.invariant-loop-round
invariant-loop-round l = record {
  in_range : 1 ≤ l.round;
  so_far : state_of l.state ≡ equivalent_rounds (words_of l.words) l.block (14 - l.round);
}
