use Rattle.std.proofs.Common.{◌≡◌, ℕ, ◌<◌, [], length, slice_index_or}
use Rattle.aes_block.specs.Columns.{words_of}
use Rattle.aes_block.specs.Planes.{block_in}
use Rattle.aes_block.specs.RoundKeys.{masked_key}
use Rattle.aes_block.proofs.round_keys.round_keys.Given as goal

abbrev pub invariant-loop-round : goal.invariant-loop-round
invariant-loop-round l = record {
  long : length l.keys ≡ 15;
  so_far : (k j : ℕ) → k < l.round → j < 8 → block_in (slice_index_or l.keys k []) j ≡ masked_key (words_of l.words) k;
}
