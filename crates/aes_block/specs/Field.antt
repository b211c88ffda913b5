-- Arithmetic on bytes (FIPS 197, section 4). A byte is a polynomial over GF(2) of degree below 8: bit i is
-- the coefficient of x^i. Bytes are added by the exclusive or of their bits (4.1), `bit_xor`.
use Rattle.std.specs.Prelude.{ℕ, zero, suc, ◌*◌, ◌/◌, ◌%◌, ◌==◌, nat_lt, if◌then◌else◌, bit_xor}

-- {02} • b: the byte times x, less x^8 + x^4 + x^3 + x + 1 where x^8 comes in (4.2)
unfoldable pub times_x : ℕ → ℕ
times_x b = if nat_lt b 128 then 2 * b else bit_xor (2 * b) 0x11b

-- the sum of b, x b, x^2 b, .. over those of the lowest n bits of a that are set, the lowest first
unfoldable pub partial_product : ℕ → ℕ → ℕ → ℕ
partial_product zero a b = 0
partial_product (suc n) a b = bit_xor (if a % 2 == 1 then b else 0) (partial_product n (a / 2) (times_x b))

-- a • b (4.2)
unfoldable pub product : ℕ → ℕ → ℕ
product a b = partial_product 8 a b

-- b to the power n
unfoldable pub power : ℕ → ℕ → ℕ
power b zero = 1
power b (suc n) = product b (power b n)

-- the multiplicative inverse, and 0 at 0 (5.1.1): the power 254
abbrev pub inverse : ℕ → ℕ
inverse b = power b 254
