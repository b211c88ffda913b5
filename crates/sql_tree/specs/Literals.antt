-- The types of literals.
use Rattle.ae_base.specs.declared.types.Ty.{Ty}
use Rattle.ae_base.specs.declared.types.Ty.TheVariants.{Int, BigInt, NVarChar, VarBinary}
use Rattle.ae_base.specs.declared.values.Value.{Value}
use Rattle.ae_base.specs.declared.values.Value.TheVariants as value
use Rattle.ae_base.specs.declared.values.Datum.TheVariants as datum

-- numbers are BIGINT, texts NVARCHAR(4000), bytes VARBINARY(8000), and NULL is INT
abbrev pub literal_type : Value → Ty
literal_type value.Null = Int
literal_type (value.Is (datum.Num n)) = BigInt
literal_type (value.Is (datum.Text characters)) = NVarChar 4000
literal_type (value.Is (datum.Bin bytes)) = VarBinary 8000
