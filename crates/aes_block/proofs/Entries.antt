-- Columns of 32 bits: their sums, and what the tables of a round hold.
use Rattle.std.proofs.Common.{◌≡◌, ℕ, ◌+◌, ◌-◌, ◌/◌, ◌%◌, ◌<◌, ◌^◌, List, [], ◌∷◌, length, map, slice_index, slice_index_or, bit_xor, refl, ap, ◌∙◌}
use Rattle.std.specs.Int.{from_le_bytes, w32}
use Rattle.std.specs.Int.Bits.{xor_zero_r}
use Rattle.std.specs.List.{range_with_len}
use Rattle.std.proofs.lemmas.List.{get_or-map}
use Rattle.std.proofs.lemmas.Nat.{le_bytes_4, xor_mod, xor_shr}
use Rattle.aes_block.specs.Field.{times_x, partial_product, product}
use Rattle.aes_block.specs.Aes.{inv_mix_polynomial, inv_sub_byte, mix_polynomial, sub_byte, word_product, word_sum}
use Rattle.aes_block.specs.Columns.{word_of}
use Rattle.aes_block.specs.declared.tables.TheConstants.{INV_MIXED, INV_SBOX, MIXED, SBOX}
use Rattle.aes_block.proofs.Blocks.{AreBytes-map, byte_at}
use Rattle.aes_block.proofs.Inverses.{INV_SBOX-at, SBOX-at, inv_sub_byte-lt, sub_byte-lt}
use Rattle.aes_block.proofs.Linear.{product-lt}
use Rattle.aes_block.proofs.Mixing.{four_same}

-- ---- sums

row-xor : (k a b : ℕ) → bit_xor a b / 2 ^ k % 256 ≡ bit_xor (a / 2 ^ k % 256) (b / 2 ^ k % 256)
row-xor k a b = ap (λ (n : ℕ). n % 256) (xor_shr a b k) ∙ xor_mod (a / 2 ^ k) (b / 2 ^ k) 8

-- the exclusive or of columns is the sum of the words
pub word_of-xor : (a b : ℕ) → word_of (bit_xor a b) ≡ word_sum (word_of a) (word_of b)
unfolding word_of
word_of-xor a b = four_same _ _ _ _ _ _ _ _ (xor_mod a b 8) (row-xor 8 a b) (row-xor 16 a b) (row-xor 24 a b)

word_of-four : (p q r s : ℕ) (t u v w : List ℕ) → word_of p ≡ t → word_of q ≡ u → word_of r ≡ v → word_of s ≡ w
    → word_of (bit_xor (bit_xor (bit_xor p q) r) s) ≡ word_sum (word_sum (word_sum t u) v) w
word_of-four p q r s t u v w e f g h =
    rw (word_of-xor (bit_xor (bit_xor p q) r) s, word_of-xor (bit_xor p q) r, word_of-xor p q, e, f, g, h) refl

-- ---- the tables

-- what byte i of a word gives to the word's product by the polynomial a
abbrev term : List ℕ → ℕ → ℕ → List ℕ
term a i byte = map (λ r. product (slice_index a ((r + 4 - i) % 4)) byte) (range_with_len 0 4)

term-packed : (a : List ℕ) (i byte : ℕ) → byte < 256 → word_of (from_le_bytes w32 (term a i byte)) ≡ term a i byte
unfolding word_of
term-packed a i byte low =
    le_bytes_4 (term a i byte) (from_le_bytes w32 (term a i byte)) refl
    (λ k. byte_at (term a i byte) (AreBytes-map (λ r. product (slice_index a ((r + 4 - i) % 4)) byte) 4 (λ r. product-lt (slice_index a ((r + 4 - i) % 4)) byte low)) k)
    refl

-- the table holds that for each byte of a box, as a column
abbrev Holds : List ℕ → List ℕ → ℕ → List ℕ → Type 0
Holds table a i box = table ≡ map (λ byte. from_le_bytes w32 (term a i byte)) box

entry : (table a box : List ℕ) (i x byte : ℕ) → Holds table a i box → x < length box → slice_index box x ≡ byte → byte < 256
    → word_of (slice_index table x) ≡ term a i byte
entry table a box i x byte holds low is low_byte =
    let column : ℕ → ℕ = λ b. from_le_bytes w32 (term a i b) in
    ap (λ (t : List ℕ). word_of (slice_index t x)) holds
    ∙ ap word_of (get_or-map column box x 0 0 low ∙ ap column is)
    ∙ term-packed a i byte low_byte

mixed_0 : Holds (slice_index_or MIXED 0 []) mix_polynomial 0 SBOX
unfolding times_x partial_product product
mixed_0 = refl

mixed_1 : Holds (slice_index_or MIXED 1 []) mix_polynomial 1 SBOX
unfolding times_x partial_product product
mixed_1 = refl

mixed_2 : Holds (slice_index_or MIXED 2 []) mix_polynomial 2 SBOX
unfolding times_x partial_product product
mixed_2 = refl

mixed_3 : Holds (slice_index_or MIXED 3 []) mix_polynomial 3 SBOX
unfolding times_x partial_product product
mixed_3 = refl

inv_mixed_0 : Holds (slice_index_or INV_MIXED 0 []) inv_mix_polynomial 0 INV_SBOX
unfolding times_x partial_product product
inv_mixed_0 = refl

inv_mixed_1 : Holds (slice_index_or INV_MIXED 1 []) inv_mix_polynomial 1 INV_SBOX
unfolding times_x partial_product product
inv_mixed_1 = refl

inv_mixed_2 : Holds (slice_index_or INV_MIXED 2 []) inv_mix_polynomial 2 INV_SBOX
unfolding times_x partial_product product
inv_mixed_2 = refl

inv_mixed_3 : Holds (slice_index_or INV_MIXED 3 []) inv_mix_polynomial 3 INV_SBOX
unfolding times_x partial_product product
inv_mixed_3 = refl

mixed-product : (i j k l : ℕ) → i < 256 → j < 256 → k < 256 → l < 256
    → word_of
    (bit_xor (bit_xor (bit_xor (slice_index (slice_index_or MIXED 0 []) i) (slice_index (slice_index_or MIXED 1 []) j)) (slice_index (slice_index_or MIXED 2 []) k))
    (slice_index (slice_index_or MIXED 3 []) l))
    ≡ word_product mix_polynomial (sub_byte i ∷ sub_byte j ∷ sub_byte k ∷ sub_byte l ∷ [])
mixed-product i j k l li lj lk ll =
    word_of-four _ _ _ _ _ _ _ _
    (entry (slice_index_or MIXED 0 []) mix_polynomial SBOX 0 i (sub_byte i) mixed_0 li (SBOX-at i li) (sub_byte-lt i li))
    (entry (slice_index_or MIXED 1 []) mix_polynomial SBOX 1 j (sub_byte j) mixed_1 lj (SBOX-at j lj) (sub_byte-lt j lj))
    (entry (slice_index_or MIXED 2 []) mix_polynomial SBOX 2 k (sub_byte k) mixed_2 lk (SBOX-at k lk) (sub_byte-lt k lk))
    (entry (slice_index_or MIXED 3 []) mix_polynomial SBOX 3 l (sub_byte l) mixed_3 ll (SBOX-at l ll) (sub_byte-lt l ll))

inv_mixed-product : (i j k l : ℕ) → i < 256 → j < 256 → k < 256 → l < 256
    → word_of
    (bit_xor (bit_xor (bit_xor (slice_index (slice_index_or INV_MIXED 0 []) i) (slice_index (slice_index_or INV_MIXED 1 []) j))
    (slice_index (slice_index_or INV_MIXED 2 []) k)) (slice_index (slice_index_or INV_MIXED 3 []) l))
    ≡ word_product inv_mix_polynomial (inv_sub_byte i ∷ inv_sub_byte j ∷ inv_sub_byte k ∷ inv_sub_byte l ∷ [])
inv_mixed-product i j k l li lj lk ll =
    word_of-four _ _ _ _ _ _ _ _
    (entry (slice_index_or INV_MIXED 0 []) inv_mix_polynomial INV_SBOX 0 i (inv_sub_byte i) inv_mixed_0 li (INV_SBOX-at i li) (inv_sub_byte-lt i li))
    (entry (slice_index_or INV_MIXED 1 []) inv_mix_polynomial INV_SBOX 1 j (inv_sub_byte j) inv_mixed_1 lj (INV_SBOX-at j lj) (inv_sub_byte-lt j lj))
    (entry (slice_index_or INV_MIXED 2 []) inv_mix_polynomial INV_SBOX 2 k (inv_sub_byte k) inv_mixed_2 lk (INV_SBOX-at k lk) (inv_sub_byte-lt k lk))
    (entry (slice_index_or INV_MIXED 3 []) inv_mix_polynomial INV_SBOX 3 l (inv_sub_byte l) inv_mixed_3 ll (INV_SBOX-at l ll) (inv_sub_byte-lt l ll))

pub word_of-mixed : (i j k l key : ℕ) → i < 256 → j < 256 → k < 256 → l < 256
    → word_of
    (bit_xor (bit_xor
    (bit_xor (bit_xor (slice_index (slice_index_or MIXED 0 []) i) (slice_index (slice_index_or MIXED 1 []) j)) (slice_index (slice_index_or MIXED 2 []) k))
    (slice_index (slice_index_or MIXED 3 []) l)) key)
    ≡ word_sum (word_product mix_polynomial (sub_byte i ∷ sub_byte j ∷ sub_byte k ∷ sub_byte l ∷ [])) (word_of key)
word_of-mixed i j k l key li lj lk ll =
    word_of-xor
    (bit_xor (bit_xor (bit_xor (slice_index (slice_index_or MIXED 0 []) i) (slice_index (slice_index_or MIXED 1 []) j)) (slice_index (slice_index_or MIXED 2 []) k))
    (slice_index (slice_index_or MIXED 3 []) l)) key
    ∙ ap (λ (w : List ℕ). word_sum w (word_of key)) (mixed-product i j k l li lj lk ll)

pub word_of-inv_mixed : (i j k l key : ℕ) → i < 256 → j < 256 → k < 256 → l < 256
    → word_of
    (bit_xor (bit_xor
    (bit_xor (bit_xor (slice_index (slice_index_or INV_MIXED 0 []) i) (slice_index (slice_index_or INV_MIXED 1 []) j))
    (slice_index (slice_index_or INV_MIXED 2 []) k)) (slice_index (slice_index_or INV_MIXED 3 []) l)) key)
    ≡ word_sum (word_product inv_mix_polynomial (inv_sub_byte i ∷ inv_sub_byte j ∷ inv_sub_byte k ∷ inv_sub_byte l ∷ [])) (word_of key)
word_of-inv_mixed i j k l key li lj lk ll =
    word_of-xor
    (bit_xor (bit_xor (bit_xor (slice_index (slice_index_or INV_MIXED 0 []) i) (slice_index (slice_index_or INV_MIXED 1 []) j))
    (slice_index (slice_index_or INV_MIXED 2 []) k)) (slice_index (slice_index_or INV_MIXED 3 []) l)) key
    ∙ ap (λ (w : List ℕ). word_sum w (word_of key)) (inv_mixed-product i j k l li lj lk ll)

-- a product to which nothing is added
pub word_product-zero : (a w : List ℕ) → word_sum (word_product a w) (word_of 0) ≡ word_product a w
unfolding word_of
word_product-zero a w = four_same _ _ _ _ _ _ _ _ (xor_zero_r _) (xor_zero_r _) (xor_zero_r _) (xor_zero_r _)
