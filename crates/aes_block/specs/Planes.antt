-- Eight blocks as planes of bits. A plane is 16 lanes, a byte each: lane 4r + c is for row r and column c of a state, and
-- bit j of a lane for block j. Plane k holds bit k of each byte.
use Rattle.std.specs.Prelude.{ℕ, ◌+◌, ◌*◌, List, [], map, slice_index, slice_index_or}
use Rattle.std.specs.Int.{bit_at}
use Rattle.std.specs.List.{range_with_len}
use Rattle.aes_block.specs.Aes.{byte_of, from_cells}

-- the bit of row r, column c and block j
unfoldable pub bit : List ℕ → ℕ → ℕ → ℕ → ℕ
bit lanes r c j = bit_at (slice_index lanes (4 * r + c)) j

-- plane k
abbrev pub plane : List (List ℕ) → ℕ → List ℕ
plane planes k = slice_index_or planes k []

-- the bits of the first n planes there
unfoldable pub bits : List (List ℕ) → ℕ → ℕ → ℕ → ℕ → List ℕ
bits planes n r c j = map (λ k. bit (plane planes k) r c j) (range_with_len 0 n)

-- the byte in row r and column c of block j
unfoldable pub byte : List (List ℕ) → ℕ → ℕ → ℕ → ℕ
byte planes r c j = byte_of (λ k. bit (plane planes k) r c j)

-- column c of block j
abbrev pub column_in : List (List ℕ) → ℕ → ℕ → List ℕ
column_in planes c j = map (λ r. byte planes r c j) (range_with_len 0 4)

-- block j
unfoldable pub block_in : List (List ℕ) → ℕ → List ℕ
block_in planes j = from_cells (λ r c. byte planes r c j)
