-- The transformations of the state make blocks of blocks, and have their inverses.
use Rattle.std.proofs.Common.{◌≡◌, ℕ, ◌+◌, ◌-◌, ◌*◌, ◌/◌, ◌%◌, ◌<◌, List, [], ◌∷◌, length, map, All, slice_index, slice_index_or, bit_xor, refl, sym, ◌∙◌, arith, inl, inr}
use Rattle.std.specs.List.{concat, range_with_len}
use Rattle.std.specs.Int.Bits.{xor_assoc, xor_self, xor_zero_r}
use Rattle.std.proofs.lemmas.Bool.{cases_lt}
use Rattle.std.proofs.lemmas.List.{get_or_past}
use Rattle.std.proofs.lemmas.List.Elements.{All-from_get_or, All-map, All-nil}
use Rattle.std.proofs.lemmas.List.FromFn.{fill_by_all, length-map-range_with_len}
use Rattle.std.proofs.lemmas.Nat.{xor_lt}
use Rattle.aes_block.specs.Bytes.{AreBytes}
use Rattle.aes_block.specs.Field.{product}
use Rattle.aes_block.specs.Aes.{
  IsBlock,
  IsKey,
  add_round_key,
  cell,
  column,
  from_columns,
  inv_mix_columns,
  inv_mix_polynomial,
  inv_shift_rows,
  inv_sub_byte,
  inv_sub_bytes,
  mix_columns,
  mix_polynomial,
  shift_rows,
  sub_byte,
  sub_bytes,
  sum_of_four,
  word,
  word_product,
}
use Rattle.aes_block.proofs.Computed.{same_below, SameBelow}
use Rattle.aes_block.proofs.Inverses.{inv_sub_byte-lt, inv_sub_byte-sub_byte, sub_byte-inv_sub_byte, sub_byte-lt}
use Rattle.aes_block.proofs.Linear.{product-lt}
use Rattle.aes_block.proofs.Mixing.{inv_mix-undoes-mix, mix-undoes-inv_mix, sum_of_four-lt, Undoes, word_back}

-- words of bytes
abbrev pub AreWords : List (List ℕ) → Type 0
AreWords words = All AreBytes words

pub byte_at : (bytes : List ℕ) → AreBytes bytes → (k : ℕ) → slice_index bytes k < 256
byte_at bytes all k = elim (cases_lt k (length bytes)) [
  | inl low ↦ all k 0 low
  | inr past ↦ rw (get_or_past bytes k 0 past) (omega arith)
]

pub word_at : (words : List (List ℕ)) → AreWords words → (k : ℕ) → AreBytes (word words k)
word_at words all k = elim (cases_lt k (length words)) [
  | inl low ↦ all k [] low
  | inr past ↦ rw (get_or_past words k [] past) (All-nil (λ byte. byte < 256))
]

-- what the code knows of an array of bytes
pub IsKey-from_bytes : (key : List ℕ) → length key ≡ 32 → ((i : ℕ) → slice_index key i < 256) → IsKey key
IsKey-from_bytes key long bytes = (long, All-from_get_or (λ byte. byte < 256) key 0 (λ i _. bytes i))

pub IsBlock-from_bytes : (block : List ℕ) → length block ≡ 16 → ((i : ℕ) → slice_index block i < 256) → IsBlock block
IsBlock-from_bytes block long bytes = (long, All-from_get_or (λ byte. byte < 256) block 0 (λ i _. bytes i))

-- a list whose bytes a test computes
pub AreBytes-tested : (bytes : List ℕ) (n : ℕ) → length bytes ≡ n → SameBelow (λ k. slice_index bytes k / 256) (λ _. 0) n → AreBytes bytes
AreBytes-tested bytes n long test = All-from_get_or (λ byte. byte < 256) bytes 0 (λ k low.
    let top : slice_index bytes k / 256 ≡ 0 = same_below (λ i. slice_index bytes i / 256) (λ _. 0) n k test (omega arith) in
    omega arith)

-- the bytes that f gives at the first n numbers
pub AreBytes-map : (f : ℕ → ℕ) (n : ℕ) → ((k : ℕ) → f k < 256) → AreBytes (map f (range_with_len 0 n))
AreBytes-map f n low = All-map (λ byte. byte < 256) f (range_with_len 0 n) (λ k d _. low (slice_index_or (range_with_len 0 n) k d))

IsBlock-map : (f : ℕ → ℕ) → ((k : ℕ) → f k < 256) → IsBlock (map f (range_with_len 0 16))
IsBlock-map f low = (length-map-range_with_len f 0 16, AreBytes-map f 16 low)

-- a block of what f gives at each place, where that is the byte there
pub block_by : (f : ℕ → ℕ) (s : List ℕ) → IsBlock s → ((k : ℕ) → f k ≡ slice_index s k) → map f (range_with_len 0 16) ≡ s
block_by f s block same = sym (fill_by_all f s 16 0 block.0 (λ k _. sym (same k)))

pub IsBlock-sub_bytes : (s : List ℕ) → IsBlock s → IsBlock (sub_bytes s)
unfolding sub_bytes
IsBlock-sub_bytes s block = IsBlock-map (λ k. sub_byte (slice_index s k)) (λ k. sub_byte-lt (slice_index s k) (byte_at s block.1 k))

pub IsBlock-inv_sub_bytes : (s : List ℕ) → IsBlock s → IsBlock (inv_sub_bytes s)
unfolding inv_sub_bytes
IsBlock-inv_sub_bytes s block = IsBlock-map (λ k. inv_sub_byte (slice_index s k)) (λ k. inv_sub_byte-lt (slice_index s k) (byte_at s block.1 k))

pub inv_sub_bytes-sub_bytes : (s : List ℕ) → IsBlock s → inv_sub_bytes (sub_bytes s) ≡ s
unfolding sub_bytes inv_sub_bytes
inv_sub_bytes-sub_bytes s block =
    block_by (λ k. inv_sub_byte (sub_byte (slice_index s k))) s block (λ k. inv_sub_byte-sub_byte (slice_index s k) (byte_at s block.1 k))

pub sub_bytes-inv_sub_bytes : (s : List ℕ) → IsBlock s → sub_bytes (inv_sub_bytes s) ≡ s
unfolding sub_bytes inv_sub_bytes
sub_bytes-inv_sub_bytes s block =
    block_by (λ k. sub_byte (inv_sub_byte (slice_index s k))) s block (λ k. sub_byte-inv_sub_byte (slice_index s k) (byte_at s block.1 k))

pub IsBlock-shift_rows : (s : List ℕ) → IsBlock s → IsBlock (shift_rows s)
unfolding shift_rows
IsBlock-shift_rows s block = IsBlock-map (λ k. cell s (k % 4) ((k / 4 + k % 4) % 4)) (λ k. byte_at s block.1 _)

pub IsBlock-inv_shift_rows : (s : List ℕ) → IsBlock s → IsBlock (inv_shift_rows s)
unfolding inv_shift_rows
IsBlock-inv_shift_rows s block = IsBlock-map (λ k. cell s (k % 4) ((k / 4 + 4 - k % 4) % 4)) (λ k. byte_at s block.1 _)

pub inv_shift_rows-shift_rows : (s : List ℕ) → IsBlock s → inv_shift_rows (shift_rows s) ≡ s
unfolding shift_rows inv_shift_rows
inv_shift_rows-shift_rows s block = block_by (λ k. slice_index s k) s block (λ k. refl)

pub shift_rows-inv_shift_rows : (s : List ℕ) → IsBlock s → shift_rows (inv_shift_rows s) ≡ s
unfolding shift_rows inv_shift_rows
shift_rows-inv_shift_rows s block = block_by (λ k. slice_index s k) s block (λ k. refl)

-- AddRoundKey is its own inverse
pub IsBlock-add_round_key : (words : List (List ℕ)) (round : ℕ) (s : List ℕ) → AreWords words → IsBlock s → IsBlock (add_round_key words round s)
unfolding add_round_key
IsBlock-add_round_key words round s keys block =
    IsBlock-map (λ k. bit_xor (slice_index s k) (slice_index (word words (4 * round + k / 4)) (k % 4)))
    (λ k. xor_lt 8 (slice_index s k) (slice_index (word words (4 * round + k / 4)) (k % 4)) (byte_at s block.1 k)
    (byte_at (word words (4 * round + k / 4)) (word_at words keys (4 * round + k / 4)) (k % 4)))

xor-twice : (a b : ℕ) → bit_xor (bit_xor a b) b ≡ a
xor-twice a b = rw (xor_assoc a b b, xor_self b) (xor_zero_r a)

pub add_round_key-twice : (words : List (List ℕ)) (round : ℕ) (s : List ℕ) → IsBlock s → add_round_key words round (add_round_key words round s) ≡ s
unfolding add_round_key
add_round_key-twice words round s block =
    let key : ℕ → ℕ = λ k. slice_index (word words (4 * round + k / 4)) (k % 4) in
    block_by (λ k. bit_xor (bit_xor (slice_index s k) (key k)) (key k)) s block (λ k. xor-twice (slice_index s k) (key k))

-- the bytes of a product of a word
product_byte : List ℕ → List ℕ → ℕ → ℕ → ℕ
product_byte a s r c = sum_of_four (λ i. product (slice_index a ((r + 4 - i) % 4)) (cell s i c))

product_byte-lt : (a s : List ℕ) (r c : ℕ) → IsBlock s → product_byte a s r c < 256
unfolding product_byte
product_byte-lt a s r c block =
    sum_of_four-lt (λ i. product (slice_index a ((r + 4 - i) % 4)) (cell s i c)) (λ i. product-lt (slice_index a ((r + 4 - i) % 4)) (cell s i c) (byte_at s block.1 (i + 4 * c)))

pub IsBlock-mix_columns : (s : List ℕ) → IsBlock s → IsBlock (mix_columns s)
unfolding mix_columns product_byte
IsBlock-mix_columns s block = IsBlock-map (λ k. product_byte mix_polynomial s (k % 4) (k / 4)) (λ k. product_byte-lt mix_polynomial s (k % 4) (k / 4) block)

pub IsBlock-inv_mix_columns : (s : List ℕ) → IsBlock s → IsBlock (inv_mix_columns s)
unfolding inv_mix_columns product_byte
IsBlock-inv_mix_columns s block = IsBlock-map (λ k. product_byte inv_mix_polynomial s (k % 4) (k / 4)) (λ k. product_byte-lt inv_mix_polynomial s (k % 4) (k / 4) block)

pub four_joined : (a b c d p q r s : List ℕ) → a ≡ p → b ≡ q → c ≡ r → d ≡ s
    → concat (a ∷ b ∷ c ∷ d ∷ []) ≡ concat (p ∷ q ∷ r ∷ s ∷ [])
four_joined a b c d p q r s e f g h = rw (e, f, g, h) refl

-- the columns back, one by one
columns_back : (a b : List ℕ) → Undoes a b → (s : List ℕ) → IsBlock s
    → from_columns (λ c. word_product a (word_product b (column s c))) ≡ s
columns_back a b undoes s block =
    let back = λ (c : ℕ). word_back a b undoes (λ r. cell s r c) (λ r. byte_at s block.1 (r + 4 * c)) in
    four_joined _ _ _ _ (column s 0) (column s 1) (column s 2) (column s 3) (back 0) (back 1) (back 2) (back 3)
    ∙ block_by (λ k. slice_index s k) s block (λ k. refl)

pub inv_mix_columns-mix_columns : (s : List ℕ) → IsBlock s → inv_mix_columns (mix_columns s) ≡ s
unfolding mix_columns inv_mix_columns
inv_mix_columns-mix_columns s block = columns_back inv_mix_polynomial mix_polynomial inv_mix-undoes-mix s block

pub mix_columns-inv_mix_columns : (s : List ℕ) → IsBlock s → mix_columns (inv_mix_columns s) ≡ s
unfolding mix_columns inv_mix_columns
mix_columns-inv_mix_columns s block = columns_back mix_polynomial inv_mix_polynomial mix-undoes-inv_mix s block
