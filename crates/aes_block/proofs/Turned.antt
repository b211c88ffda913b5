-- Blocks and their bits in planes.
use Rattle.std.proofs.Common.{◌≡◌, ℕ, ◌+◌, ◌*◌, ◌<◌, List, length, slice_index, refl, sym, ap, ◌∙◌, arith}
use Rattle.std.proofs.lemmas.List.FromFn.{fill_by_all}
use Rattle.aes_block.specs.Aes.{cell, from_cells}
use Rattle.aes_block.specs.Planes.{bit, block_in, byte, plane}
use Rattle.aes_block.proofs.ByteBits.{byte_of-bits, byte_of-same}
use Rattle.aes_block.proofs.PlaneRounds.{same_cells}

from_cells-cell : (block : List ℕ) → length block ≡ 16 → from_cells (λ r c. cell block r c) ≡ block
from_cells-cell block long = sym (fill_by_all (λ k. slice_index block k) block 16 0 long (λ k _. refl))

-- the block that has the bits of block j of the planes
pub block_in-bits : (planes : List (List ℕ)) (j : ℕ) (block : List ℕ) → length block ≡ 16 → ((i : ℕ) → slice_index block i < 256)
    → ((r c k : ℕ) → r < 4 → c < 4 → k < 8 → bit (plane planes k) r c j ≡ bit block c r k)
    → block_in planes j ≡ block
unfolding bit block_in byte
block_in-bits planes j block long bytes same =
    same_cells (λ r c. byte planes r c j) (λ r c. cell block r c) (λ r c row column.
    byte_of-same (λ k. bit (plane planes k) r c j) (λ k. bit block c r k) (λ k low. same r c k row column low)
    ∙ byte_of-bits (slice_index block (4 * c + r)) (bytes (4 * c + r))
    ∙ ap (slice_index block) (omega arith))
    ∙ from_cells-cell block long
