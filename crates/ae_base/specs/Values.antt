-- Values, and which of them a type admits.
use Rattle.std.specs.Prelude.{ℕ, ◌+◌, ◌<◌, ◌≤◌, List, [], ◌∷◌, length, Bool, true, false, IsTrue, ◌&&◌, nat_lt, nat_le, int_le, pos, negsuc, if◌then◌else◌, FitsSigned}
use Rattle.std.specs.Int.{w32, w64}
use Rattle.std.specs.List.{All}
use Rattle.std.specs.Ordering.{int_eq}
use Rattle.std.specs.Str.{bytes_eq, all_scalars}
use Rattle.ae_base.specs.declared.values.Datum.{Datum}
use Rattle.ae_base.specs.declared.values.Datum.TheVariants.{Num, Text, Bin}
use Rattle.ae_base.specs.declared.values.Value.{Value}
use Rattle.ae_base.specs.declared.values.Value.TheVariants.{Null, Is}
use Rattle.ae_base.specs.declared.types.Ty.{Ty}
use Rattle.ae_base.specs.declared.types.Ty.TheVariants.{Int, BigInt, NVarChar, VarBinary}

-- whether two data are one: of one kind, and equal
abbrev pub datum_eq : Datum → Datum → Bool
datum_eq (Num a) (Num b) = int_eq a b
datum_eq (Num a) (Text b) = false
datum_eq (Num a) (Bin b) = false
datum_eq (Text a) (Num b) = false
datum_eq (Text a) (Text b) = bytes_eq a b
datum_eq (Text a) (Bin b) = false
datum_eq (Bin a) (Num b) = false
datum_eq (Bin a) (Text b) = false
datum_eq (Bin a) (Bin b) = bytes_eq a b

-- a datum is a number of 64 bits, a text of Unicode scalar values, or bytes
abbrev pub IsProperDatum : Datum → Type 0
IsProperDatum (Num n) = FitsSigned w64 n
IsProperDatum (Text characters) = IsTrue (all_scalars characters)
IsProperDatum (Bin bytes) = All (λ byte. byte < 256) bytes

abbrev pub IsProper : Value → Type 0
IsProper Null = Unit {0}
IsProper (Is datum) = IsProperDatum datum

-- how many UTF-16 units a text has: a character from 65536 on has two (the Unicode Standard, section 3.9, D91)
abbrev pub units_of : ℕ → ℕ
units_of c = if nat_lt c 65536 then 1 else 2

abbrev pub units : List ℕ → ℕ
units [] = 0
units (c ∷ cs) = units_of c + units cs

-- a datum is of the type and within its bound
abbrev pub IsWithin : Datum → Ty → Type 0
IsWithin (Num n) Int = FitsSigned w32 n
IsWithin (Num n) BigInt = FitsSigned w64 n
IsWithin (Num n) (NVarChar most) = ⊥
IsWithin (Num n) (VarBinary most) = ⊥
IsWithin (Text characters) Int = ⊥
IsWithin (Text characters) BigInt = ⊥
IsWithin (Text characters) (NVarChar most) = units characters ≤ most
IsWithin (Text characters) (VarBinary most) = ⊥
IsWithin (Bin bytes) Int = ⊥
IsWithin (Bin bytes) BigInt = ⊥
IsWithin (Bin bytes) (NVarChar most) = ⊥
IsWithin (Bin bytes) (VarBinary most) = length bytes ≤ most

-- the same as a test
abbrev pub is_within : Datum → Ty → Bool
is_within (Num n) Int = int_le (negsuc 2147483647) n && int_le n (pos 2147483647)
is_within (Num n) BigInt = int_le (negsuc 9223372036854775807) n && int_le n (pos 9223372036854775807)
is_within (Num n) (NVarChar most) = false
is_within (Num n) (VarBinary most) = false
is_within (Text characters) Int = false
is_within (Text characters) BigInt = false
is_within (Text characters) (NVarChar most) = nat_le (units characters) most
is_within (Text characters) (VarBinary most) = false
is_within (Bin bytes) Int = false
is_within (Bin bytes) BigInt = false
is_within (Bin bytes) (NVarChar most) = false
is_within (Bin bytes) (VarBinary most) = nat_le (length bytes) most

-- a datum fits a type: it is proper, of the type and within its bound
abbrev pub DatumFits : Datum → Ty → Type 0
DatumFits datum ty = IsProperDatum datum × IsWithin datum ty

-- NULL fits every type
abbrev pub Fits : Value → Ty → Type 0
Fits Null ty = Unit {0}
Fits (Is datum) ty = DatumFits datum ty

abbrev pub value_is_within : Value → Ty → Bool
value_is_within Null ty = true
value_is_within (Is datum) ty = is_within datum ty
