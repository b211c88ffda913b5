use Rattle.std.proofs.Common.{◌≡◌, List, ℕ, [], ◌-◌, ◌<◌, ◌≤◌, slice_index_or}
use Rattle.aes_block.specs.Equivalent.{equivalent_rounds}
use Rattle.aes_block.specs.Planes.{block_in}
use Rattle.aes_block.specs.RoundKeys.{AreRoundKeys, masked}
use Rattle.aes_block.proofs.eights.equivalent_ciphers.Given as goal

abbrev pub invariant-loop-round : goal.invariant-loop-round
invariant-loop-round l = record {
  in_range : 1 ≤ l.round;
  so_far : (words : List (List ℕ)) → AreRoundKeys words l.keys → (j : ℕ) → j < 8
      → block_in l.planes j ≡ masked (equivalent_rounds words (slice_index_or l.blocks j []) (14 - l.round));
}
