-- The steps of InvMixColumns on planes make the product with its polynomial.
use Rattle.std.proofs.Common.{◌≡◌, ℕ, zero, suc, ◌+◌, ◌-◌, ◌*◌, ◌/◌, ◌%◌, ◌<◌, ◌==◌, bit_xor, slice_index, map, refl, ap, ap₂, ◌∙◌, arith}
use Rattle.std.specs.Prelude.{if◌then◌else◌}
use Rattle.std.specs.Int.Bits.{xor_zero_l, xor_zero_r}
use Rattle.std.specs.List.{range_with_len}
use Rattle.std.proofs.lemmas.Nat.{xor_lt}
use Rattle.aes_block.specs.Field.{times_x, partial_product, product}
use Rattle.aes_block.specs.Aes.{inv_mix_polynomial, sum_of_four, word_product}
use Rattle.aes_block.proofs.Computed.{same_below, SameBelow}
use Rattle.aes_block.proofs.Linear.{either-lt, product-lt}
use Rattle.aes_block.proofs.Mixing.{product-sum_of_four, sum_of_four-xor}

-- ---- what byte i of a column, if it is x, gives to row r of each step

unfoldable own : ℕ → ℕ → ℕ → ℕ
own r i x = if r == i then x else 0

unfoldable even_part : ℕ → ℕ → ℕ → ℕ
even_part r i x = bit_xor (own r i x) (own ((r + 2) % 4) i x)

unfoldable y_part : ℕ → ℕ → ℕ → ℕ
y_part r i x = bit_xor (own r i x) (product 4 (even_part r i x))

unfoldable d_part : ℕ → ℕ → ℕ → ℕ
d_part r i x = bit_xor (y_part r i x) (y_part ((r + 1) % 4) i x)

unfoldable z_part : ℕ → ℕ → ℕ → ℕ
z_part r i x = bit_xor (bit_xor (product 2 (d_part r i x)) (y_part ((r + 1) % 4) i x)) (d_part ((r + 2) % 4) i x)

-- that is its product by the coefficient. The number stands for r, i and x.
z_below : SameBelow (λ n. z_part (n / 1024) (n / 256 % 4) (n % 256))
    (λ n. product (slice_index inv_mix_polynomial ((n / 1024 + 4 - n / 256 % 4) % 4)) (n % 256)) 4096
unfolding own even_part y_part d_part z_part times_x partial_product product
z_below = refl

z_part-is : (r i x : ℕ) → r < 4 → i < 4 → x < 256 → z_part r i x ≡ product (slice_index inv_mix_polynomial ((r + 4 - i) % 4)) x
z_part-is r i x lr li lx =
    let row : (r * 1024 + i * 256 + x) / 1024 ≡ r = omega arith in
    let place : (r * 1024 + i * 256 + x) / 256 % 4 ≡ i = omega arith in
    let byte : (r * 1024 + i * 256 + x) % 256 ≡ x = omega arith in
    let low : r * 1024 + i * 256 + x < 4096 = omega arith in
    let f : ℕ → ℕ = λ n. z_part (n / 1024) (n / 256 % 4) (n % 256) in
    let g : ℕ → ℕ = λ n. product (slice_index inv_mix_polynomial ((n / 1024 + 4 - n / 256 % 4) % 4)) (n % 256) in
    rw (row, place, byte) at (same_below f g 4096 (r * 1024 + i * 256 + x) z_below low)

own-lt : (r i x : ℕ) → x < 256 → own r i x < 256
unfolding own
own-lt r i x low = either-lt (r == i) x 256 low

even_part-lt : (r i x : ℕ) → x < 256 → even_part r i x < 256
unfolding even_part
even_part-lt r i x low = xor_lt 8 (own r i x) (own ((r + 2) % 4) i x) (own-lt r i x low) (own-lt ((r + 2) % 4) i x low)

y_part-lt : (r i x : ℕ) → x < 256 → y_part r i x < 256
unfolding y_part
y_part-lt r i x low = xor_lt 8 (own r i x) (product 4 (even_part r i x)) (own-lt r i x low) (product-lt 4 (even_part r i x) (even_part-lt r i x low))

d_part-lt : (r i x : ℕ) → x < 256 → d_part r i x < 256
unfolding d_part
d_part-lt r i x low = xor_lt 8 (y_part r i x) (y_part ((r + 1) % 4) i x) (y_part-lt r i x low) (y_part-lt ((r + 1) % 4) i x low)

-- ---- the steps on a column

own-sum : (w : ℕ → ℕ) (r : ℕ) → r < 4 → w r ≡ sum_of_four (λ i. own r i (w i))
unfolding own
own-sum w zero _ = simp xor_zero_r
own-sum w (suc zero) _ = simp (xor_zero_l, xor_zero_r)
own-sum w (suc (suc zero)) _ = simp (xor_zero_l, xor_zero_r)
own-sum w (suc (suc (suc zero))) _ = simp xor_zero_l
own-sum w (suc (suc (suc (suc r)))) low = absurd (omega arith)

even-sum : (w even : ℕ → ℕ) → ((r : ℕ) → r < 4 → even r ≡ bit_xor (w r) (w ((r + 2) % 4)))
    → (r : ℕ) → r < 4 → even r ≡ sum_of_four (λ i. even_part r i (w i))
unfolding even_part
even-sum w even is r low =
    is r low ∙ ap₂ bit_xor (own-sum w r low) (own-sum w ((r + 2) % 4) (omega arith))
    ∙ sum_of_four-xor (λ i. own r i (w i)) (λ i. own ((r + 2) % 4) i (w i))

y-sum : (w even y : ℕ → ℕ) → ((i : ℕ) → w i < 256) → ((r : ℕ) → r < 4 → even r ≡ sum_of_four (λ i. even_part r i (w i)))
    → ((r : ℕ) → r < 4 → y r ≡ bit_xor (w r) (product 4 (even r)))
    → (r : ℕ) → r < 4 → y r ≡ sum_of_four (λ i. y_part r i (w i))
unfolding y_part
y-sum w even y bytes even_is is r low =
    is r low
    ∙ ap₂ bit_xor (own-sum w r low)
    (ap (product 4) (even_is r low) ∙ product-sum_of_four 4 (λ i. even_part r i (w i)) (λ i. even_part-lt r i (w i) (bytes i)))
    ∙ sum_of_four-xor (λ i. own r i (w i)) (λ i. product 4 (even_part r i (w i)))

d-sum : (w y d : ℕ → ℕ) → ((r : ℕ) → r < 4 → y r ≡ sum_of_four (λ i. y_part r i (w i)))
    → ((r : ℕ) → r < 4 → d r ≡ bit_xor (y r) (y ((r + 1) % 4)))
    → (r : ℕ) → r < 4 → d r ≡ sum_of_four (λ i. d_part r i (w i))
unfolding d_part
d-sum w y d y_is is r low =
    is r low ∙ ap₂ bit_xor (y_is r low) (y_is ((r + 1) % 4) (omega arith))
    ∙ sum_of_four-xor (λ i. y_part r i (w i)) (λ i. y_part ((r + 1) % 4) i (w i))

z-sum : (w y d z : ℕ → ℕ) → ((i : ℕ) → w i < 256) → ((r : ℕ) → r < 4 → y r ≡ sum_of_four (λ i. y_part r i (w i)))
    → ((r : ℕ) → r < 4 → d r ≡ sum_of_four (λ i. d_part r i (w i)))
    → ((r : ℕ) → r < 4 → z r ≡ bit_xor (bit_xor (product 2 (d r)) (y ((r + 1) % 4))) (d ((r + 2) % 4)))
    → (r : ℕ) → r < 4 → z r ≡ sum_of_four (λ i. z_part r i (w i))
unfolding z_part
z-sum w y d z bytes y_is d_is is r low =
    is r low
    ∙ ap₂ bit_xor
    (ap₂ bit_xor (ap (product 2) (d_is r low) ∙ product-sum_of_four 2 (λ i. d_part r i (w i)) (λ i. d_part-lt r i (w i) (bytes i))) (y_is ((r + 1) % 4) (omega arith))
    ∙ sum_of_four-xor (λ i. product 2 (d_part r i (w i))) (λ i. y_part ((r + 1) % 4) i (w i)))
    (d_is ((r + 2) % 4) (omega arith))
    ∙ sum_of_four-xor (λ i. bit_xor (product 2 (d_part r i (w i))) (y_part ((r + 1) % 4) i (w i))) (λ i. d_part ((r + 2) % 4) i (w i))

-- a column by the steps
pub record AreSteps (w even y d z : ℕ → ℕ) : Type 0 where
  pub even_is : (r : ℕ) → r < 4 → even r ≡ bit_xor (w r) (w ((r + 2) % 4))
  pub y_is : (r : ℕ) → r < 4 → y r ≡ bit_xor (w r) (product 4 (even r))
  pub d_is : (r : ℕ) → r < 4 → d r ≡ bit_xor (y r) (y ((r + 1) % 4))
  pub z_is : (r : ℕ) → r < 4 → z r ≡ bit_xor (bit_xor (product 2 (d r)) (y ((r + 1) % 4))) (d ((r + 2) % 4))

z-row : (w even y d z : ℕ → ℕ) → ((i : ℕ) → w i < 256) → AreSteps w even y d z → (r : ℕ) → r < 4
    → z r ≡ sum_of_four (λ i. product (slice_index inv_mix_polynomial ((r + 4 - i) % 4)) (w i))
z-row w even y d z bytes steps r low =
    let ys = y-sum w even y bytes (even-sum w even steps.even_is) steps.y_is in
    let ds = d-sum w y d ys steps.d_is in
    z-sum w y d z bytes ys ds steps.z_is r low
    ∙ rw (
      z_part-is r 0 (w 0) low (omega arith) (bytes 0),
      z_part-is r 1 (w 1) low (omega arith) (bytes 1),
      z_part-is r 2 (w 2) low (omega arith) (bytes 2),
      z_part-is r 3 (w 3) low (omega arith) (bytes 3),
    ) refl

-- is multiplied by the polynomial
pub inv_mixed-column : (w even y d z : ℕ → ℕ) → ((i : ℕ) → w i < 256) → AreSteps w even y d z
    → map z (range_with_len 0 4) ≡ word_product inv_mix_polynomial (map w (range_with_len 0 4))
inv_mixed-column w even y d z bytes steps =
    let row = z-row w even y d z bytes steps in
    rw (row 0 (omega arith), row 1 (omega arith), row 2 (omega arith), row 3 (omega arith)) refl
