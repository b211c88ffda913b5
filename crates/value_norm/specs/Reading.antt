-- The value that cell bytes are, as a function.
use Rattle.std.specs.Prelude.{◌≡◌, ℕ, ◌+◌, ◌*◌, ◌↔◌, ◌&&◌, Bool, true, List, [], ◌∷◌, Option, Some, None, nat_lt, if◌then◌else◌}
use Rattle.std.specs.Int.{w64, cast_signed, from_le_bytes}
use Rattle.std.specs.List.{list_all}
use Rattle.std.specs.Str.{bytes_eq, all_scalars}
use Rattle.std.specs.Char.Utf16.{utf16_lossy_chars}
use Rattle.ae_base.specs.Values.{is_within}
use Rattle.ae_base.specs.declared.values.Datum.{Datum}
use Rattle.ae_base.specs.declared.values.Datum.TheVariants.{Num, Text, Bin}
use Rattle.ae_base.specs.declared.types.Ty.{Ty}
use Rattle.ae_base.specs.declared.types.Ty.TheVariants.{Int, BigInt, NVarChar, VarBinary}
use Rattle.value_norm.specs.Norm.{norm, HasCellBytes}

-- the units of pairs of bytes, the low byte of each first
abbrev pub units_in : List ℕ → List ℕ
units_in [] = []
units_in (low ∷ []) = []
units_in (low ∷ high ∷ bytes) = (low + 256 * high) ∷ units_in bytes

-- the datum of the type's kind that the bytes may be
abbrev pub candidate : List ℕ → Ty → Datum
candidate bytes Int = Num (cast_signed w64 (from_le_bytes w64 bytes))
candidate bytes BigInt = Num (cast_signed w64 (from_le_bytes w64 bytes))
candidate bytes (NVarChar most) = Text (utf16_lossy_chars (units_in bytes))
candidate bytes (VarBinary most) = Bin bytes

-- a datum that is within a type's bound is proper
abbrev pub is_proper : Datum → Bool
is_proper (Num n) = true
is_proper (Text characters) = all_scalars characters
is_proper (Bin bytes) = list_all (λ byte. nat_lt byte 256) bytes

-- the value of the type that has these cell bytes, where there is one
unfoldable pub value_of : List ℕ → Ty → Option Datum
value_of bytes ty =
    let datum = candidate bytes ty in
    if is_proper datum && is_within datum ty && bytes_eq (norm datum ty) bytes then Some datum else None

-- it is that value exactly where the value fits and these are its cell bytes
abbrev pub ValueIsTheOne : Type 0
ValueIsTheOne = (bytes : List ℕ) (ty : Ty) (datum : Datum) → (value_of bytes ty ≡ Some datum) ↔ HasCellBytes datum ty bytes
