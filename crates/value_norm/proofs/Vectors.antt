-- What the kernel computes of the definitions at single values.
use Rattle.std.proofs.Common.{◌≡◌, [], ◌∷◌, Some, None, refl, codes, pos, negsuc, replicate}
use Rattle.std.specs.Char.Utf16.{utf16_chars}
use Rattle.ae_base.specs.declared.values.Datum.TheVariants.{Num, Text}
use Rattle.ae_base.specs.declared.types.Ty.TheVariants.{Int, BigInt, NVarChar}
use Rattle.value_norm.specs.Norm.{norm}
use Rattle.value_norm.specs.Reading.{value_of}

norm-258 : norm (Num (pos 258)) BigInt ≡ 0x02 ∷ 0x01 ∷ 0 ∷ 0 ∷ 0 ∷ 0 ∷ 0 ∷ 0 ∷ []
norm-258 = refl

-- -1
norm-below_zero : norm (Num (negsuc 0)) Int ≡ replicate 8 0xff
norm-below_zero = refl

norm-ab : norm (Text (codes "ab")) (NVarChar 2) ≡ 0x61 ∷ 0 ∷ 0x62 ∷ 0 ∷ []
norm-ab = refl

-- a character past 65535 has two units
norm-pair : norm (Text (0x1f600 ∷ [])) (NVarChar 2) ≡ 0x3d ∷ 0xd8 ∷ 0x00 ∷ 0xde ∷ []
norm-pair = refl

value_of-pair : value_of (0x3d ∷ 0xd8 ∷ 0x00 ∷ 0xde ∷ []) (NVarChar 2) ≡ Some (Text (0x1f600 ∷ []))
unfolding value_of utf16_chars
value_of-pair = refl

-- two units are past a bound of one
value_of-past : value_of (0x3d ∷ 0xd8 ∷ 0x00 ∷ 0xde ∷ []) (NVarChar 1) ≡ None
unfolding value_of utf16_chars
value_of-past = refl

-- a surrogate without its partner
value_of-lone : value_of (0x3d ∷ 0xd8 ∷ []) (NVarChar 8) ≡ None
unfolding value_of utf16_chars
value_of-lone = refl

-- an INT of 2 ^ 31
value_of-wide : value_of (0 ∷ 0 ∷ 0 ∷ 0x80 ∷ 0 ∷ 0 ∷ 0 ∷ 0 ∷ []) Int ≡ None
unfolding value_of
value_of-wide = refl

value_of-three : value_of (0 ∷ 0 ∷ 0 ∷ []) BigInt ≡ None
unfolding value_of
value_of-three = refl
