-- The exchanges of bits by which 8 by 8 bits are turned.
use Rattle.std.specs.Prelude.{ℕ}

-- the mask of the bits i for which i does not have the bit n, which is 1, 2 or 4
pub data ExchangeMask : ℕ → ℕ → Type 0 where
  by_one : ExchangeMask 1 0x55
  by_two : ExchangeMask 2 0x33
  by_four : ExchangeMask 4 0x0f
