-- Round keys as planes, one for each of eight blocks alike. To all but the last that is added, 0x63 is added too: the
-- circuit of the inverse S-box wants it added to each byte.
use Rattle.std.specs.Prelude.{◌≡◌, ℕ, zero, suc, ◌+◌, ◌*◌, ◌<◌, List, [], bit_xor, slice_index, slice_index_or}
use Rattle.aes_block.specs.Aes.{cell, from_cells, word}
use Rattle.aes_block.specs.Planes.{block_in}

-- 0x63 added to each byte of a state
unfoldable pub masked : List ℕ → List ℕ
masked state = from_cells (λ r c. bit_xor (cell state r c) 0x63)

-- the state that is added in a round
unfoldable pub round_key : List (List ℕ) → ℕ → List ℕ
round_key words round = from_cells (λ r c. slice_index (word words (4 * round + c)) r)

-- the same as the planes have it: only that of round 0, which is added last, has no mask
unfoldable pub masked_key : List (List ℕ) → ℕ → List ℕ
masked_key words zero = round_key words zero
masked_key words (suc round) = masked (round_key words (suc round))

-- the planes have the round keys of these key words
abbrev pub AreRoundKeys : List (List ℕ) → List (List (List ℕ)) → Type 0
AreRoundKeys words keys = (round j : ℕ) → round < 15 → j < 8 → block_in (slice_index_or keys round []) j ≡ masked_key words round
