-- The product by x, over all bytes.
use Rattle.std.proofs.Common.{◌≡◌, ℕ, ◌*◌, ◌/◌, ◌%◌, ◌<◌, bit_xor, refl}
use Rattle.aes_block.specs.Field.{times_x}
use Rattle.aes_block.proofs.Computed.{same_below, SameBelow}

-- a shift, and the polynomial taken off where x^8 came in
shifted_below : SameBelow (λ b. bit_xor (b * 2 % 256) (b / 128 * 27)) times_x 256
unfolding times_x
shifted_below = refl

pub times_x-shifted : (b : ℕ) → b < 256 → bit_xor (b * 2 % 256) (b / 128 * 27) ≡ times_x b
times_x-shifted b low = same_below (λ x. bit_xor (x * 2 % 256) (x / 128 * 27)) times_x 256 b shifted_below low
