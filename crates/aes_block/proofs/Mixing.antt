-- InvMixColumns undoes MixColumns, and the other way round.
use Rattle.std.proofs.Common.{◌≡◌, ℕ, ◌+◌, ◌-◌, ◌*◌, ◌/◌, ◌%◌, ◌<◌, ◌==◌, List, [], ◌∷◌, bit_xor, map, slice_index, refl, ◌∙◌, arith}
use Rattle.std.specs.Prelude.{if◌then◌else◌}
use Rattle.std.specs.List.{range_with_len}
use Rattle.std.specs.Int.Bits.{xor_zero_l, xor_zero_r}
use Rattle.std.proofs.lemmas.Nat.{xor_lt}
use Rattle.aes_block.specs.Field.{times_x, partial_product, product}
use Rattle.aes_block.specs.Aes.{inv_mix_polynomial, mix_polynomial, sum_of_four, word_product}
use Rattle.aes_block.proofs.Computed.{same_below, SameBelow}
use Rattle.aes_block.proofs.Linear.{product-lt, product-xor, xor-exchange}

-- the sum of two sums
pub sum_of_four-xor : (f g : ℕ → ℕ) → bit_xor (sum_of_four f) (sum_of_four g) ≡ sum_of_four (λ i. bit_xor (f i) (g i))
sum_of_four-xor f g =
    rw (
      xor-exchange (bit_xor (bit_xor (f 0) (f 1)) (f 2)) (f 3) (bit_xor (bit_xor (g 0) (g 1)) (g 2)) (g 3),
      xor-exchange (bit_xor (f 0) (f 1)) (f 2) (bit_xor (g 0) (g 1)) (g 2),
      xor-exchange (f 0) (f 1) (g 0) (g 1),
    ) refl

-- rows and columns of a sum of sixteen change places
sum_of_four-turned : (f : ℕ → ℕ → ℕ) → sum_of_four (λ i. sum_of_four (λ j. f i j)) ≡ sum_of_four (λ j. sum_of_four (λ i. f i j))
sum_of_four-turned f =
    rw (
      sum_of_four-xor (f 0) (f 1),
      sum_of_four-xor (λ j. bit_xor (f 0 j) (f 1 j)) (f 2),
      sum_of_four-xor (λ j. bit_xor (bit_xor (f 0 j) (f 1 j)) (f 2 j)) (f 3),
    ) refl

pub sum_of_four-lt : (f : ℕ → ℕ) → ((i : ℕ) → f i < 256) → sum_of_four f < 256
sum_of_four-lt f low =
    xor_lt 8 (bit_xor (bit_xor (f 0) (f 1)) (f 2)) (f 3) (xor_lt 8 (bit_xor (f 0) (f 1)) (f 2) (xor_lt 8 (f 0) (f 1) (low 0) (low 1)) (low 2)) (low 3)

-- a product of a sum
pub product-sum_of_four : (k : ℕ) (f : ℕ → ℕ) → ((i : ℕ) → f i < 256) → product k (sum_of_four f) ≡ sum_of_four (λ i. product k (f i))
product-sum_of_four k f low =
    let two : bit_xor (f 0) (f 1) < 256 = xor_lt 8 (f 0) (f 1) (low 0) (low 1) in
    let three : bit_xor (bit_xor (f 0) (f 1)) (f 2) < 256 = xor_lt 8 (bit_xor (f 0) (f 1)) (f 2) two (low 2) in
    rw (
      product-xor k (bit_xor (bit_xor (f 0) (f 1)) (f 2)) (f 3) three (low 3),
      product-xor k (bit_xor (f 0) (f 1)) (f 2) two (low 2),
      product-xor k (f 0) (f 1) (low 0) (low 1),
    ) refl

-- what byte j of a word gives to byte r of the word times b and then times a
abbrev twice : List ℕ → List ℕ → ℕ → ℕ → ℕ → ℕ
twice a b r j x = sum_of_four (λ i. product (slice_index a ((r + 4 - i) % 4)) (product (slice_index b ((i + 4 - j) % 4)) x))

-- byte r of the word times b and then times a
twice-row : (a b : List ℕ) (r : ℕ) (w : ℕ → ℕ) → ((i : ℕ) → w i < 256)
    → sum_of_four (λ i. product (slice_index a ((r + 4 - i) % 4)) (sum_of_four (λ j. product (slice_index b ((i + 4 - j) % 4)) (w j))))
    ≡ sum_of_four (λ j. twice a b r j (w j))
twice-row a b r w low =
    let terms = λ (i j : ℕ). product (slice_index b ((i + 4 - j) % 4)) (w j) in
    let bytes = λ (i j : ℕ). product-lt (slice_index b ((i + 4 - j) % 4)) (w j) (low j) in
    rw (
      product-sum_of_four (slice_index a ((r + 4 - 0) % 4)) (terms 0) (bytes 0),
      product-sum_of_four (slice_index a ((r + 4 - 1) % 4)) (terms 1) (bytes 1),
      product-sum_of_four (slice_index a ((r + 4 - 2) % 4)) (terms 2) (bytes 2),
      product-sum_of_four (slice_index a ((r + 4 - 3) % 4)) (terms 3) (bytes 3),
    )
    (sum_of_four-turned (λ i j. product (slice_index a ((r + 4 - i) % 4)) (terms i j)))

-- a word times b and then times a is the word: what byte j gives to byte r is itself where j is r, and else 0.
-- The number stands for r, j and a byte.
abbrev pub Undoes : List ℕ → List ℕ → Type 0
Undoes a b = SameBelow (λ n. twice a b (n / 1024) (n / 256 % 4) (n % 256)) (λ n. if n / 1024 == n / 256 % 4 then n % 256 else 0) 4096

twice-at : (a b : List ℕ) → Undoes a b → (r j x : ℕ) → r < 4 → j < 4 → x < 256 → twice a b r j x ≡ (if r == j then x else 0)
twice-at a b undoes r j x lr lj lx =
    let n : ℕ = r * 1024 + j * 256 + x in
    let row : (r * 1024 + j * 256 + x) / 1024 ≡ r = omega arith in
    let place : (r * 1024 + j * 256 + x) / 256 % 4 ≡ j = omega arith in
    let byte : (r * 1024 + j * 256 + x) % 256 ≡ x = omega arith in
    let low : r * 1024 + j * 256 + x < 4096 = omega arith in
    let f : ℕ → ℕ = λ m. twice a b (m / 1024) (m / 256 % 4) (m % 256) in
    let g : ℕ → ℕ = λ m. if m / 1024 == m / 256 % 4 then m % 256 else 0 in
    rw (row, place, byte) at (same_below f g 4096 n undoes low)

row_back : (a b : List ℕ) → Undoes a b → (r : ℕ) → r < 4 → (w : ℕ → ℕ) → ((i : ℕ) → w i < 256)
    → sum_of_four (λ i. product (slice_index a ((r + 4 - i) % 4)) (sum_of_four (λ j. product (slice_index b ((i + 4 - j) % 4)) (w j))))
    ≡ sum_of_four (λ j. if r == j then w j else 0)
row_back a b undoes r low w bytes =
    twice-row a b r w bytes
    ∙ rw (
      twice-at a b undoes r 0 (w 0) low (omega arith) (bytes 0),
      twice-at a b undoes r 1 (w 1) low (omega arith) (bytes 1),
      twice-at a b undoes r 2 (w 2) low (omega arith) (bytes 2),
      twice-at a b undoes r 3 (w 3) low (omega arith) (bytes 3),
    ) refl

pub four_same : (a b c d p q r s : ℕ) → a ≡ p → b ≡ q → c ≡ r → d ≡ s → (a ∷ b ∷ c ∷ d ∷ []) ≡ (p ∷ q ∷ r ∷ s ∷ [])
four_same a b c d p q r s e f g h = cc

pub word_back : (a b : List ℕ) → Undoes a b → (w : ℕ → ℕ) → ((i : ℕ) → w i < 256)
    → word_product a (word_product b (map w (range_with_len 0 4))) ≡ map w (range_with_len 0 4)
word_back a b undoes w bytes =
    let at = λ (r : ℕ) (low : r < 4). row_back a b undoes r low w bytes in
    four_same _ _ _ _ _ _ _ _
    (at 0 (omega arith) ∙ simp xor_zero_r)
    (at 1 (omega arith) ∙ simp (xor_zero_l, xor_zero_r))
    (at 2 (omega arith) ∙ simp (xor_zero_l, xor_zero_r))
    (at 3 (omega arith) ∙ simp xor_zero_l)

pub inv_mix-undoes-mix : Undoes inv_mix_polynomial mix_polynomial
unfolding times_x partial_product product
inv_mix-undoes-mix = refl

pub mix-undoes-inv_mix : Undoes mix_polynomial inv_mix_polynomial
unfolding times_x partial_product product
mix-undoes-inv_mix = refl
