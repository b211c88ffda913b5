-- Products distribute over sums of bytes, and are bytes.
use Rattle.std.proofs.Common.{◌≡◌, ℕ, zero, suc, ◌+◌, ◌*◌, ◌/◌, ◌%◌, ◌<◌, ◌^◌, ◌==◌, Bool, true, false, bit_xor, refl, sym, ap, ◌∙◌, add-zero, arith}
use Rattle.std.specs.Prelude.{if◌then◌else◌}
use Rattle.std.specs.Int.Bits.{xor_assoc}
use Rattle.std.proofs.lemmas.Nat.{xor_block, xor_comm, xor_lt, xor_mod, xor_shr}
use Rattle.aes_block.specs.Field.{times_x, partial_product, product, power}
use Rattle.aes_block.proofs.Computed.{same_below, SameBelow}
use Rattle.aes_block.proofs.Products.{times_x-shifted}

-- the middle two of four change places
pub xor-exchange : (a b c d : ℕ) → bit_xor (bit_xor a b) (bit_xor c d) ≡ bit_xor (bit_xor a c) (bit_xor b d)
xor-exchange a b c d =
    rw (xor_assoc a b (bit_xor c d), ← xor_assoc b c d, xor_comm b c, xor_assoc c b d, ← xor_assoc a c (bit_xor b d)) refl

-- twice a sum
xor-double : (a b : ℕ) → bit_xor a b * 2 ≡ bit_xor (a * 2) (b * 2)
xor-double a b =
    let zero_low : 0 < 2 ^ 1 = omega arith in
    let block : bit_xor (a * 2 ^ 1 + 0) (b * 2 ^ 1 + 0) ≡ bit_xor a b * 2 ^ 1 + bit_xor 0 0 = xor_block 1 a b 0 0 zero_low zero_low in
    sym (rw (add-zero (a * 2 ^ 1), add-zero (b * 2 ^ 1), add-zero (bit_xor a b * 2 ^ 1)) at block)

-- two bits
xor-scaled : (u v : ℕ) → u < 2 → v < 2 → bit_xor u v * 27 ≡ bit_xor (u * 27) (v * 27)
xor-scaled zero v _ _ = refl
xor-scaled (suc zero) zero _ _ = refl
xor-scaled (suc zero) (suc zero) _ _ = refl
xor-scaled (suc zero) (suc (suc v)) _ h = absurd (omega arith)
xor-scaled (suc (suc u)) v h _ = absurd (omega arith)

pub times_x-xor : (a b : ℕ) → a < 256 → b < 256 → times_x (bit_xor a b) ≡ bit_xor (times_x a) (times_x b)
times_x-xor a b la lb =
    let l : bit_xor a b < 256 = xor_lt 8 a b la lb in
    let shifted : bit_xor a b * 2 % 256 ≡ bit_xor (a * 2 % 256) (b * 2 % 256) = ap (λ n. n % 256) (xor-double a b) ∙ xor_mod (a * 2) (b * 2) 8 in
    let top : bit_xor a b / 128 ≡ bit_xor (a / 128) (b / 128) = xor_shr a b 7 in
    let scaled : bit_xor a b / 128 * 27 ≡ bit_xor (a / 128 * 27) (b / 128 * 27) = ap (λ n. n * 27) top ∙ xor-scaled (a / 128) (b / 128) (omega arith) (omega arith) in
    rw (← times_x-shifted (bit_xor a b) l, ← times_x-shifted a la, ← times_x-shifted b lb, shifted, scaled)
    (xor-exchange (a * 2 % 256) (b * 2 % 256) (a / 128 * 27) (b / 128 * 27))

times_x_below : SameBelow (λ b. times_x b / 256) (λ _. 0) 256
unfolding times_x
times_x_below = refl

pub times_x-lt : (b : ℕ) → b < 256 → times_x b < 256
times_x-lt b low =
    let top : times_x b / 256 ≡ 0 = same_below (λ x. times_x x / 256) (λ _. 0) 256 b times_x_below low in
    omega arith

either-xor : (t : Bool) (a b : ℕ) → (if t then bit_xor a b else 0) ≡ bit_xor (if t then a else 0) (if t then b else 0)
either-xor true a b = refl
either-xor false a b = refl

pub either-lt : (t : Bool) (a n : ℕ) → a < n → (if t then a else 0) < n
either-lt true a n low = low
either-lt false a n low = omega arith

partial_product-xor : (n k a b : ℕ) → a < 256 → b < 256 → partial_product n k (bit_xor a b) ≡ bit_xor (partial_product n k a) (partial_product n k b)
unfolding partial_product
partial_product-xor zero k a b la lb = refl
partial_product-xor (suc n) k a b la lb =
    rw (
      times_x-xor a b la lb,
      partial_product-xor n (k / 2) (times_x a) (times_x b) (times_x-lt a la) (times_x-lt b lb),
      either-xor (k % 2 == 1) a b,
    )
    (xor-exchange (if k % 2 == 1 then a else 0) (if k % 2 == 1 then b else 0) (partial_product n (k / 2) (times_x a)) (partial_product n (k / 2) (times_x b)))

partial_product-lt : (n k b : ℕ) → b < 256 → partial_product n k b < 256
unfolding partial_product
partial_product-lt zero k b low = omega arith
partial_product-lt (suc n) k b low =
    xor_lt 8 (if k % 2 == 1 then b else 0) (partial_product n (k / 2) (times_x b)) (either-lt (k % 2 == 1) b 256 low) (partial_product-lt n (k / 2) (times_x b) (times_x-lt b low))

pub product-xor : (k a b : ℕ) → a < 256 → b < 256 → product k (bit_xor a b) ≡ bit_xor (product k a) (product k b)
unfolding product
product-xor k a b la lb = partial_product-xor 8 k a b la lb

pub product-lt : (k b : ℕ) → b < 256 → product k b < 256
unfolding product
product-lt k b low = partial_product-lt 8 k b low

pub power_2-lt : (n : ℕ) → power 2 n < 256
unfolding power
power_2-lt zero = omega arith
power_2-lt (suc n) = product-lt 2 (power 2 n) (power_2-lt n)
