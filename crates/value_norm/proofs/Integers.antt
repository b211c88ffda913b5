-- Numbers as eight bytes.
use Rattle.std.proofs.Common.{◌≡◌, ℕ, ℤ, ◌<◌, ◌^◌, ◌∙◌, List, length, get_or, refl, sym, ap, arith, FitsSigned, w64}
use Rattle.std.specs.Int.{cast_unsigned, cast_signed, to_le_bytes, from_le_bytes}
use Rattle.std.proofs.lemmas.Int.{ints, to_z-of_z, of_z-to_z}
use Rattle.std.proofs.lemmas.Nat.{le_bytes_8, from_le_bytes-to_le_bytes_8}
use Rattle.std.specs.List.{All}
use Rattle.std.proofs.lemmas.List.Elements.{All-from_recursion}
use Rattle.value_norm.specs.Norm.{number_bytes}

cast_unsigned-bound : (n : ℤ) → FitsSigned w64 n → cast_unsigned w64 n < 2 ^ 64
cast_unsigned-bound n fits = omega (arith, ints)

-- the bytes tell the numbers apart
pub number_bytes-injective : (v w : ℤ) → FitsSigned w64 v → FitsSigned w64 w → number_bytes v ≡ number_bytes w → v ≡ w
number_bytes-injective v w fits_v fits_w same =
    let unsigned : cast_unsigned w64 v ≡ cast_unsigned w64 w =
    sym (from_le_bytes-to_le_bytes_8 (cast_unsigned w64 v) (cast_unsigned-bound v fits_v))
    ∙ ap (from_le_bytes w64) same
    ∙ from_le_bytes-to_le_bytes_8 (cast_unsigned w64 w) (cast_unsigned-bound w fits_w) in
    sym (to_z-of_z w64 v fits_v) ∙ ap (cast_signed w64) unsigned ∙ to_z-of_z w64 w fits_w

from_le_bytes-bound : (bytes : List ℕ) → ((i : ℕ) → get_or bytes i 0 < 256) → from_le_bytes w64 bytes < 2 ^ 64
from_le_bytes-bound bytes small = omega (arith, small 0, small 1, small 2, small 3, small 4, small 5, small 6, small 7)

-- eight bytes are those of the number that is read from them
pub number_bytes-read : (bytes word : List ℕ) (n : ℤ) → length bytes ≡ 8 → word ≡ bytes → ((i : ℕ) → get_or bytes i 0 < 256)
    → n ≡ cast_signed w64 (from_le_bytes w64 word) → number_bytes (cast_signed w64 (cast_unsigned w64 n)) ≡ bytes
number_bytes-read bytes word n eight same small is =
    let m : ℕ = from_le_bytes w64 bytes in
    let read : n ≡ cast_signed w64 m = is ∙ ap (λ b. cast_signed w64 (from_le_bytes w64 b)) same in
    let back : cast_unsigned w64 (cast_signed w64 m) ≡ m = of_z-to_z w64 m (from_le_bytes-bound bytes small) in
    let unsigned : cast_unsigned w64 (cast_signed w64 (cast_unsigned w64 n)) ≡ m =
    ap (λ z. cast_unsigned w64 (cast_signed w64 (cast_unsigned w64 z))) read ∙ ap (λ k. cast_unsigned w64 (cast_signed w64 k)) back ∙ back in
    ap (to_le_bytes w64) unsigned ∙ le_bytes_8 bytes m eight small refl

-- each of the eight is a byte
pub number_bytes-bytes : (n : ℤ) → All (λ byte. byte < 256) (number_bytes n)
number_bytes-bytes n =
    All-from_recursion (λ byte. byte < 256) (number_bytes n)
    (omega arith, (omega arith, (omega arith, (omega arith, (omega arith, (omega arith, (omega arith, (omega arith, tt))))))))

-- the number that is read from a number's bytes is that number
pub from_le_bytes-number_bytes : (n : ℤ) → FitsSigned w64 n → cast_signed w64 (from_le_bytes w64 (number_bytes n)) ≡ n
from_le_bytes-number_bytes n fits =
    ap (cast_signed w64) (from_le_bytes-to_le_bytes_8 (cast_unsigned w64 n) (cast_unsigned-bound n fits)) ∙ to_z-of_z w64 n fits
