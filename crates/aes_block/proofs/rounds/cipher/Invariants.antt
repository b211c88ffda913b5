use Rattle.std.proofs.Common.{◌≡◌, ◌-◌}
use Rattle.aes_block.specs.Aes.{rounds}
use Rattle.aes_block.specs.Columns.{state_of, words_of}
use Rattle.aes_block.proofs.rounds.cipher.Given as goal

abbrev pub invariant-loop-round : goal.invariant-loop-round
invariant-loop-round l = state_of l.state ≡ rounds (words_of l.words) l.block (l.round - 1)
