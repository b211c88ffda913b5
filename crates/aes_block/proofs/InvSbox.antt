-- The circuit computes the inverse S-box.
use Rattle.std.proofs.Common.{◌≡◌, ℕ, ◌<◌, List, map, slice_index, bit_xor, refl, sym, ap, ◌∙◌, arith}
use Rattle.std.specs.Int.{bit_at}
use Rattle.std.specs.List.{range_with_len}
use Rattle.aes_block.specs.Field.{times_x, partial_product, product, power}
use Rattle.aes_block.specs.Aes.{byte_of, inv_affine, inv_sub_byte}
use Rattle.aes_block.specs.InvSbox.{addends, all_planes, circuit, four_planes, left_factors, multipliers, norm, norm_inverse, products, right_factors, shared_sums}
use Rattle.aes_block.specs.Planes.{bit, bits, byte, plane}
use Rattle.aes_block.proofs.ByteBits.{bit-lt, bit_at-byte_of, byte_of-lt}
use Rattle.aes_block.proofs.Computed.{same_below, SameBelow}

-- bits 0 to 7
abbrev eight : (ℕ → ℕ) → List ℕ
eight f = map f (range_with_len 0 8)

circuit_below : SameBelow (λ x. byte_of (slice_index (circuit (eight (bit_at x))))) (λ x. inv_sub_byte (bit_xor x 0x63)) 256
unfolding circuit left_factors right_factors addends products norm norm_inverse multipliers shared_sums four_planes all_planes inv_sub_byte inv_affine power product partial_product times_x
circuit_below = refl

-- of the bits of any byte
circuit-byte : (x : ℕ) → x < 256 → byte_of (slice_index (circuit (eight (bit_at x)))) ≡ inv_sub_byte (bit_xor x 0x63)
circuit-byte x low =
    same_below (λ y. byte_of (slice_index (circuit (eight (bit_at y))))) (λ y. inv_sub_byte (bit_xor y 0x63)) 256 x circuit_below low

eight-same : (f g : ℕ → ℕ) → ((k : ℕ) → k < 8 → f k ≡ g k) → eight f ≡ eight g
eight-same f g same =
    rw (
      same 0 (omega arith),
      same 1 (omega arith),
      same 2 (omega arith),
      same 3 (omega arith),
      same 4 (omega arith),
      same 5 (omega arith),
      same 6 (omega arith),
      same 7 (omega arith),
    )
    refl

-- of any eight bits
pub circuit-bits : (f : ℕ → ℕ) → ((k : ℕ) → f k < 2)
    → byte_of (slice_index (circuit (eight f))) ≡ inv_sub_byte (bit_xor (byte_of f) 0x63)
circuit-bits f low =
    ap (λ (b : List ℕ). byte_of (slice_index (circuit b))) (sym (eight-same (bit_at (byte_of f)) f (bit_at-byte_of f low)))
    ∙ circuit-byte (byte_of f) (byte_of-lt f low)

-- of the bits of planes
pub circuit-bytes : (planes result : List (List ℕ)) (r c j : ℕ) → bits result 8 r c j ≡ circuit (bits planes 8 r c j)
    → byte result r c j ≡ inv_sub_byte (bit_xor (byte planes r c j) 0x63)
unfolding bits byte
circuit-bytes planes result r c j is =
    ap (λ (b : List ℕ). byte_of (slice_index b)) is
    ∙ circuit-bits (λ k. bit (plane planes k) r c j) (λ k. bit-lt (plane planes k) r c j)
