-- Declared types.
use Rattle.ae_base.specs.Sizes.{IsTextSize, IsBinarySize}
use Rattle.ae_base.specs.declared.types.Ty.{Ty}
use Rattle.ae_base.specs.declared.types.Ty.TheVariants.{Int, BigInt, NVarChar, VarBinary}

abbrev pub IsType : Ty → Type 0
IsType Int = Unit {0}
IsType BigInt = Unit {0}
IsType (NVarChar most) = IsTextSize most
IsType (VarBinary most) = IsBinarySize most
