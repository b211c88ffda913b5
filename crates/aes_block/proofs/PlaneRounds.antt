-- A round on planes is a round of each block.
use Rattle.std.proofs.Common.{◌≡◌, add-one, zero, suc, ◌≤◌, ℕ, ◌+◌, ◌-◌, ◌*◌, ◌%◌, ◌<◌, List, [], bit_xor, slice_index, slice_index_or, refl, sym, ap, ◌∙◌, arith}
use Rattle.std.specs.Int.Bits.{xor_assoc, xor_zero_r}
use Rattle.aes_block.specs.Aes.{add_round_key, cell, column, from_cells, inv_mix_columns, inv_mix_polynomial, inv_shift_rows, inv_sub_byte, inv_sub_bytes, word, word_product}
use Rattle.aes_block.specs.Equivalent.{equivalent_cipher, equivalent_rounds}
use Rattle.aes_block.specs.Planes.{block_in, byte, column_in}
use Rattle.aes_block.specs.RoundKeys.{AreRoundKeys, masked, masked_key, round_key}
use Rattle.aes_block.proofs.Positions.{at_cells, at_four}

-- ---- the cells of a state

pub cell-from_cells : (f : ℕ → ℕ → ℕ) (r c : ℕ) → r < 4 → c < 4 → cell (from_cells f) r c ≡ f r c
cell-from_cells f = at_cells (λ r c. cell (from_cells f) r c ≡ f r c)
    refl refl refl refl refl refl refl refl refl refl refl refl refl refl refl refl

-- states that agree in each cell
pub same_cells : (f g : ℕ → ℕ → ℕ) → ((r c : ℕ) → r < 4 → c < 4 → f r c ≡ g r c) → from_cells f ≡ from_cells g
same_cells f g same =
    let at = λ (r c : ℕ) (row : r < 4) (col : c < 4). same r c row col in
    rw (
      same 0 0 (omega arith) (omega arith),
      same 0 1 (omega arith) (omega arith),
      same 0 2 (omega arith) (omega arith),
      same 0 3 (omega arith) (omega arith),
      same 1 0 (omega arith) (omega arith),
      same 1 1 (omega arith) (omega arith),
      same 1 2 (omega arith) (omega arith),
      same 1 3 (omega arith) (omega arith),
      same 2 0 (omega arith) (omega arith),
      same 2 1 (omega arith) (omega arith),
      same 2 2 (omega arith) (omega arith),
      same 2 3 (omega arith) (omega arith),
      same 3 0 (omega arith) (omega arith),
      same 3 1 (omega arith) (omega arith),
      same 3 2 (omega arith) (omega arith),
      same 3 3 (omega arith) (omega arith),
    ) refl

pub cell-block_in : (planes : List (List ℕ)) (j r c : ℕ) → r < 4 → c < 4 → cell (block_in planes j) r c ≡ byte planes r c j
unfolding block_in
cell-block_in planes j r c row col = cell-from_cells (λ r c. byte planes r c j) r c row col

cell-added : (words : List (List ℕ)) (round : ℕ) (s : List ℕ) (r c : ℕ) → r < 4 → c < 4
    → cell (add_round_key words round s) r c ≡ bit_xor (cell s r c) (slice_index (word words (4 * round + c)) r)
unfolding add_round_key
cell-added words round s = at_cells (λ r c. cell (add_round_key words round s) r c ≡ bit_xor (cell s r c) (slice_index (word words (4 * round + c)) r))
    refl refl refl refl refl refl refl refl refl refl refl refl refl refl refl refl

cell-mixed : (s : List ℕ) (r c : ℕ) → r < 4 → c < 4
    → cell (inv_mix_columns s) r c ≡ slice_index (word_product inv_mix_polynomial (column s c)) r
unfolding inv_mix_columns
cell-mixed s = at_cells (λ r c. cell (inv_mix_columns s) r c ≡ slice_index (word_product inv_mix_polynomial (column s c)) r)
    refl refl refl refl refl refl refl refl refl refl refl refl refl refl refl refl

cell-turned : (s : List ℕ) (r c : ℕ) → r < 4 → c < 4
    → cell (inv_shift_rows (inv_sub_bytes s)) r c ≡ inv_sub_byte (cell s r ((c + 4 - r) % 4))
unfolding inv_shift_rows inv_sub_bytes
cell-turned s = at_cells (λ r c. cell (inv_shift_rows (inv_sub_bytes s)) r c ≡ inv_sub_byte (cell s r ((c + 4 - r) % 4)))
    refl refl refl refl refl refl refl refl refl refl refl refl refl refl refl refl

cell-masked : (s : List ℕ) (r c : ℕ) → r < 4 → c < 4 → cell (masked s) r c ≡ bit_xor (cell s r c) 0x63
unfolding masked
cell-masked s r c row col = cell-from_cells (λ r c. bit_xor (cell s r c) 0x63) r c row col

cell-round_key : (words : List (List ℕ)) (round r c : ℕ) → r < 4 → c < 4
    → cell (round_key words round) r c ≡ slice_index (word words (4 * round + c)) r
unfolding round_key
cell-round_key words round r c row col = cell-from_cells (λ r c. slice_index (word words (4 * round + c)) r) r c row col

-- a state to which a round key was added is made of its cells
whole : (words : List (List ℕ)) (round : ℕ) (s : List ℕ) → from_cells (λ r c. cell (add_round_key words round s) r c) ≡ add_round_key words round s
unfolding add_round_key
whole words round s = refl

-- a mask that is added again
unmasked : (a : ℕ) → bit_xor (bit_xor a 0x63) 0x63 ≡ a
unmasked a = rw (xor_assoc a 0x63 0x63) (xor_zero_r a)

-- ---- the steps

-- the inverse S-box and InvShiftRows of planes that hold a state with its mask
pub byte-turned : (p q t : List (List ℕ)) (s : List ℕ) (j : ℕ)
    → ((r c j : ℕ) → byte q r c j ≡ inv_sub_byte (bit_xor (byte p r c j) 0x63))
    → ((r c j : ℕ) → r < 4 → c < 4 → byte t r c j ≡ byte q r ((c + 4 - r) % 4) j)
    → block_in p j ≡ masked s
    → (r c : ℕ) → r < 4 → c < 4 → byte t r c j ≡ cell (inv_shift_rows (inv_sub_bytes s)) r c
byte-turned p q t s j substituted shifted is r c row col =
    let from : (c + 4 - r) % 4 < 4 = omega arith in
    let held : byte p r ((c + 4 - r) % 4) j ≡ bit_xor (cell s r ((c + 4 - r) % 4)) 0x63 =
    sym (cell-block_in p j r ((c + 4 - r) % 4) row from) ∙ ap (λ (b : List ℕ). cell b r ((c + 4 - r) % 4)) is ∙ cell-masked s r ((c + 4 - r) % 4) row from in
    shifted r c j row col
    ∙ substituted r ((c + 4 - r) % 4) j
    ∙ ap (λ n. inv_sub_byte (bit_xor n 0x63)) held
    ∙ ap inv_sub_byte (unmasked (cell s r ((c + 4 - r) % 4)))
    ∙ sym (cell-turned s r c row col)

-- a row of a column
row_of : (m : List (List ℕ)) (r c j : ℕ) → r < 4 → byte m r c j ≡ slice_index (column_in m c j) r
row_of m r c j row = at_four (λ r. byte m r c j ≡ slice_index (column_in m c j) r) refl refl refl refl r row

-- and InvMixColumns of it
pub byte-mixed : (t m : List (List ℕ)) (s : List ℕ) (j : ℕ)
    → ((c j : ℕ) → c < 4 → column_in m c j ≡ word_product inv_mix_polynomial (column_in t c j))
    → ((r c : ℕ) → r < 4 → c < 4 → byte t r c j ≡ cell s r c)
    → (r c : ℕ) → r < 4 → c < 4 → byte m r c j ≡ cell (inv_mix_columns s) r c
byte-mixed t m s j mixed same r c row col =
    let columns : column_in t c j ≡ column s c =
    rw (same 0 c (omega arith) col, same 1 c (omega arith) col, same 2 c (omega arith) col, same 3 c (omega arith) col) refl in
    row_of m r c j row
    ∙ ap (λ (w : List ℕ). slice_index w r) (mixed c j col ∙ ap (word_product inv_mix_polynomial) columns)
    ∙ sym (cell-mixed s r c row col)

-- a sum with a round key that has the mask
pub masked-summed : (words : List (List ℕ)) (round : ℕ) (m k a : List (List ℕ)) (s : List ℕ) (j : ℕ)
    → ((r c j : ℕ) → byte a r c j ≡ bit_xor (byte m r c j) (byte k r c j))
    → block_in k j ≡ masked (round_key words round)
    → ((r c : ℕ) → r < 4 → c < 4 → byte m r c j ≡ cell s r c)
    → block_in a j ≡ masked (add_round_key words round s)
unfolding block_in masked
masked-summed words round m k a s j added is same =
    same_cells (λ r c. byte a r c j) (λ r c. bit_xor (cell (add_round_key words round s) r c) 0x63)
    (λ r c row col.
    let key : byte k r c j ≡ bit_xor (slice_index (word words (4 * round + c)) r) 0x63 =
    sym (cell-block_in k j r c row col) ∙ ap (λ (b : List ℕ). cell b r c) is
    ∙ cell-masked (round_key words round) r c row col ∙ ap (λ n. bit_xor n 0x63) (cell-round_key words round r c row col) in
    added r c j
    ∙ ap (λ n. bit_xor n (byte k r c j)) (same r c row col)
    ∙ ap (bit_xor (cell s r c)) key
    ∙ sym (xor_assoc (cell s r c) (slice_index (word words (4 * round + c)) r) 0x63)
    ∙ ap (λ n. bit_xor n 0x63) (sym (cell-added words round s r c row col)))

-- and with one that has none
pub block-summed : (words : List (List ℕ)) (round : ℕ) (m k a : List (List ℕ)) (s : List ℕ) (j : ℕ)
    → ((r c j : ℕ) → byte a r c j ≡ bit_xor (byte m r c j) (byte k r c j))
    → block_in k j ≡ round_key words round
    → ((r c : ℕ) → r < 4 → c < 4 → byte m r c j ≡ cell s r c)
    → block_in a j ≡ add_round_key words round s
unfolding block_in
block-summed words round m k a s j added is same =
    same_cells (λ r c. byte a r c j) (λ r c. cell (add_round_key words round s) r c)
    (λ r c row col.
    added r c j
    ∙ ap (λ n. bit_xor n (byte k r c j)) (same r c row col)
    ∙ ap (bit_xor (cell s r c)) (sym (cell-block_in k j r c row col) ∙ ap (λ (b : List ℕ). cell b r c) is ∙ cell-round_key words round r c row col)
    ∙ sym (cell-added words round s r c row col))
    ∙ whole words round s

-- ---- the whole cipher

pub masked_key-inner : (words : List (List ℕ)) (round : ℕ) → 1 ≤ round → masked_key words round ≡ masked (round_key words round)
unfolding masked_key
masked_key-inner words zero low = absurd (omega arith)
masked_key-inner words (suc round) low = refl

pub masked_key-last : (words : List (List ℕ)) → masked_key words 0 ≡ round_key words 0
unfolding masked_key
masked_key-last words = refl

pub round-more : (words : List (List ℕ)) (keys : List (List (List ℕ))) (round n up : ℕ) (p q t m a : List (List ℕ)) (block : List ℕ) (j : ℕ)
    → AreRoundKeys words keys → j < 8 → 1 ≤ round → round < 14 → 13 - n ≡ round → n + 1 ≡ up
    → ((r c j : ℕ) → byte q r c j ≡ inv_sub_byte (bit_xor (byte p r c j) 0x63))
    → ((r c j : ℕ) → r < 4 → c < 4 → byte t r c j ≡ byte q r ((c + 4 - r) % 4) j)
    → ((c j : ℕ) → c < 4 → column_in m c j ≡ word_product inv_mix_polynomial (column_in t c j))
    → ((r c j : ℕ) → byte a r c j ≡ bit_xor (byte m r c j) (byte (slice_index_or keys round []) r c j))
    → block_in p j ≡ masked (equivalent_rounds words block n)
    → block_in a j ≡ masked (equivalent_rounds words block up)
unfolding equivalent_rounds
round-more words keys round n up p q t m a block j are low inner outer down above substituted shifted mixed added is =
    let s = equivalent_rounds words block n in
    let key : block_in (slice_index_or keys round []) j ≡ masked (round_key words round) =
    are round j (omega arith) low ∙ masked_key-inner words round inner in
    rw (← above, add-one, down)
    (masked-summed words round m (slice_index_or keys round []) a (inv_mix_columns (inv_shift_rows (inv_sub_bytes s))) j added key
    (byte-mixed t m (inv_shift_rows (inv_sub_bytes s)) j mixed (byte-turned p q t s j substituted shifted is)))

pub rounds-first : (words : List (List ℕ)) (keys : List (List (List ℕ))) (p a : List (List ℕ)) (block : List ℕ) (j : ℕ)
    → AreRoundKeys words keys → j < 8
    → block_in p j ≡ block
    → ((r c j : ℕ) → byte a r c j ≡ bit_xor (byte p r c j) (byte (slice_index_or keys 14 []) r c j))
    → block_in a j ≡ masked (equivalent_rounds words block 0)
unfolding equivalent_rounds
rounds-first words keys p a block j are low is added =
    masked-summed words 14 p (slice_index_or keys 14 []) a block j added
    (are 14 j (omega arith) low ∙ masked_key-inner words 14 (omega arith))
    (λ r c row col. sym (cell-block_in p j r c row col) ∙ ap (λ (b : List ℕ). cell b r c) is)

pub rounds-last : (words : List (List ℕ)) (keys : List (List (List ℕ))) (p q t a : List (List ℕ)) (block : List ℕ) (j : ℕ)
    → AreRoundKeys words keys → j < 8
    → ((r c j : ℕ) → byte q r c j ≡ inv_sub_byte (bit_xor (byte p r c j) 0x63))
    → ((r c j : ℕ) → r < 4 → c < 4 → byte t r c j ≡ byte q r ((c + 4 - r) % 4) j)
    → ((r c j : ℕ) → byte a r c j ≡ bit_xor (byte t r c j) (byte (slice_index_or keys 0 []) r c j))
    → block_in p j ≡ masked (equivalent_rounds words block 13)
    → block_in a j ≡ equivalent_cipher words block
unfolding equivalent_cipher
rounds-last words keys p q t a block j are low substituted shifted added is =
    let s = equivalent_rounds words block 13 in
    block-summed words 0 t (slice_index_or keys 0 []) a (inv_shift_rows (inv_sub_bytes s)) j added
    (are 0 j (omega arith) low ∙ masked_key-last words)
    (byte-turned p q t s j substituted shifted is)
