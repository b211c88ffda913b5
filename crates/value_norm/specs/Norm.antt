-- The bytes of values inside cells.
use Rattle.std.specs.Prelude.{◌≡◌, ℕ, ℤ, ◌*◌, ◌/◌, ◌%◌, List, [], ◌∷◌}
use Rattle.std.specs.Int.{w64, cast_unsigned, to_le_bytes}
use Rattle.std.specs.List.{flat_map}
use Rattle.std.specs.Char.Escape.{encode_utf16}
use Rattle.ae_base.specs.Values.{IsProperDatum, DatumFits}
use Rattle.ae_base.specs.declared.values.Datum.{Datum}
use Rattle.ae_base.specs.declared.values.Datum.TheVariants.{Num, Text, Bin}
use Rattle.ae_base.specs.declared.types.Ty.{Ty}
use Rattle.ae_base.specs.declared.types.Ty.TheVariants.{Int, BigInt, NVarChar, VarBinary}

-- a number as 64 bits of two's complement, the low byte first
abbrev pub number_bytes : ℤ → List ℕ
number_bytes n = to_le_bytes w64 (cast_unsigned w64 n)

-- a 16-bit unit as two bytes, the low one first (the Unicode Standard, section 3.10, D97)
abbrev pub unit_bytes : ℕ → List ℕ
unit_bytes unit = (unit % 256) ∷ (unit / 256) ∷ []

-- a text in UTF-16LE without a byte order mark: the units of its characters (section 3.9, D91), each as two bytes
abbrev pub utf16le : List ℕ → List ℕ
utf16le characters = flat_map unit_bytes (flat_map encode_utf16 characters)

-- the cell bytes of a datum that fits the type: they depend on the type only in that it says which data these are
abbrev pub norm : Datum → Ty → List ℕ
norm (Num n) ty = number_bytes n
norm (Text characters) ty = utf16le characters
norm (Bin bytes) ty = bytes

-- the most cell bytes that a datum of the type has
abbrev pub most_bytes : Ty → ℕ
most_bytes Int = 8
most_bytes BigInt = 8
most_bytes (NVarChar most) = 2 * most
most_bytes (VarBinary most) = most

-- the datum is of the type's kind: a number, a text or bytes
abbrev pub IsOfKind : Datum → Ty → Type 0
IsOfKind (Num n) Int = Unit {0}
IsOfKind (Num n) BigInt = Unit {0}
IsOfKind (Num n) (NVarChar most) = ⊥
IsOfKind (Num n) (VarBinary most) = ⊥
IsOfKind (Text characters) Int = ⊥
IsOfKind (Text characters) BigInt = ⊥
IsOfKind (Text characters) (NVarChar most) = Unit {0}
IsOfKind (Text characters) (VarBinary most) = ⊥
IsOfKind (Bin bytes) Int = ⊥
IsOfKind (Bin bytes) BigInt = ⊥
IsOfKind (Bin bytes) (NVarChar most) = ⊥
IsOfKind (Bin bytes) (VarBinary most) = Unit {0}

-- the datum is of the type's kind, within its bound or past it, and these are its cell bytes
pub record HasKindBytes (datum : Datum) (ty : Ty) (bytes : List ℕ) : Type 0 where
  pub proper : IsProperDatum datum
  pub kind : IsOfKind datum ty
  pub spelled : norm datum ty ≡ bytes

-- the datum fits the type, and these are its cell bytes
pub record HasCellBytes (datum : Datum) (ty : Ty) (bytes : List ℕ) : Type 0 where
  pub fits : DatumFits datum ty
  pub spelled : norm datum ty ≡ bytes
