-- Cell bytes tell the data of a type apart.
use Rattle.std.proofs.Common.{◌≡◌, ℕ, List, sym, ◌∙◌, ap, arith, lit≤}
use Rattle.ae_base.specs.Values.{IsProperDatum, DatumFits}
use Rattle.ae_base.specs.declared.values.Datum.{Datum}
use Rattle.ae_base.specs.declared.values.Datum.TheVariants.{Num, Text, Bin}
use Rattle.ae_base.specs.declared.types.Ty.{Ty}
use Rattle.ae_base.specs.declared.types.Ty.TheVariants.{Int, BigInt, NVarChar, VarBinary}
use Rattle.value_norm.specs.Norm.{norm, IsOfKind, HasKindBytes, HasCellBytes}
use Rattle.value_norm.specs.Laws.{NormIsOneToOne, NormIsBounded}
use Rattle.value_norm.proofs.Integers.{number_bytes-injective, number_bytes-bytes}
use Rattle.value_norm.proofs.Units.{utf16le_injective, utf16le-bytes, length-utf16le}

-- a datum that fits a type is of its kind
IsOfKind-fits : (datum : Datum) (ty : Ty) → DatumFits datum ty → IsOfKind datum ty
IsOfKind-fits (Num n) Int fits = tt
IsOfKind-fits (Num n) BigInt fits = tt
IsOfKind-fits (Num n) (NVarChar most) fits = fits.1
IsOfKind-fits (Num n) (VarBinary most) fits = fits.1
IsOfKind-fits (Text characters) Int fits = fits.1
IsOfKind-fits (Text characters) BigInt fits = fits.1
IsOfKind-fits (Text characters) (NVarChar most) fits = tt
IsOfKind-fits (Text characters) (VarBinary most) fits = fits.1
IsOfKind-fits (Bin bytes) Int fits = fits.1
IsOfKind-fits (Bin bytes) BigInt fits = fits.1
IsOfKind-fits (Bin bytes) (NVarChar most) fits = fits.1
IsOfKind-fits (Bin bytes) (VarBinary most) fits = tt

-- two data of one kind with the same bytes are one
kind-injective : (ty : Ty) (v w : Datum) → IsProperDatum v → IsProperDatum w → IsOfKind v ty → IsOfKind w ty → norm v ty ≡ norm w ty → v ≡ w
kind-injective ty (Num v) (Num w) proper_v proper_w kind_v kind_w same = ap Num (number_bytes-injective v w proper_v proper_w same)
kind-injective ty (Text v) (Text w) proper_v proper_w kind_v kind_w same = ap Text (utf16le_injective v w proper_v proper_w same)
kind-injective ty (Bin v) (Bin w) proper_v proper_w kind_v kind_w same = ap Bin same
kind-injective Int (Num v) (Text w) proper_v proper_w kind_v kind_w same = absurd kind_w
kind-injective Int (Num v) (Bin w) proper_v proper_w kind_v kind_w same = absurd kind_w
kind-injective Int (Text v) w proper_v proper_w kind_v kind_w same = absurd kind_v
kind-injective Int (Bin v) w proper_v proper_w kind_v kind_w same = absurd kind_v
kind-injective BigInt (Num v) (Text w) proper_v proper_w kind_v kind_w same = absurd kind_w
kind-injective BigInt (Num v) (Bin w) proper_v proper_w kind_v kind_w same = absurd kind_w
kind-injective BigInt (Text v) w proper_v proper_w kind_v kind_w same = absurd kind_v
kind-injective BigInt (Bin v) w proper_v proper_w kind_v kind_w same = absurd kind_v
kind-injective (NVarChar most) (Num v) w proper_v proper_w kind_v kind_w same = absurd kind_v
kind-injective (NVarChar most) (Text v) (Num w) proper_v proper_w kind_v kind_w same = absurd kind_w
kind-injective (NVarChar most) (Text v) (Bin w) proper_v proper_w kind_v kind_w same = absurd kind_w
kind-injective (NVarChar most) (Bin v) w proper_v proper_w kind_v kind_w same = absurd kind_v
kind-injective (VarBinary most) (Num v) w proper_v proper_w kind_v kind_w same = absurd kind_v
kind-injective (VarBinary most) (Text v) w proper_v proper_w kind_v kind_w same = absurd kind_v
kind-injective (VarBinary most) (Bin v) (Num w) proper_v proper_w kind_v kind_w same = absurd kind_w
kind-injective (VarBinary most) (Bin v) (Text w) proper_v proper_w kind_v kind_w same = absurd kind_w

pub norm-injective : NormIsOneToOne
norm-injective ty v w fits_v fits_w same =
    kind-injective ty v w fits_v.0 fits_w.0 (IsOfKind-fits v ty fits_v) (IsOfKind-fits w ty fits_w) same

-- a datum of the type's kind has the bytes of one that fits only where it is that one
pub cell_bytes_once : (v w : Datum) (ty : Ty) (bytes : List ℕ) → HasKindBytes v ty bytes → HasCellBytes w ty bytes → v ≡ w
cell_bytes_once v w ty bytes left right =
    kind-injective ty v w left.proper right.fits.0 left.kind (IsOfKind-fits w ty right.fits) (left.spelled ∙ sym right.spelled)

-- where it does not fit, none does
pub out_of_bound : (v w : Datum) (ty : Ty) (bytes : List ℕ) → HasKindBytes v ty bytes → ¬ (DatumFits v ty) → ¬ (HasCellBytes w ty bytes)
out_of_bound v w ty bytes left past right = let same = cell_bytes_once v w ty bytes left right in past (rw same right.fits)

pub norm-bounded : NormIsBounded
norm-bounded Int (Num n) fits = (number_bytes-bytes n, lit≤ tt)
norm-bounded Int (Text characters) fits = absurd fits.1
norm-bounded Int (Bin bytes) fits = absurd fits.1
norm-bounded BigInt (Num n) fits = (number_bytes-bytes n, lit≤ tt)
norm-bounded BigInt (Text characters) fits = absurd fits.1
norm-bounded BigInt (Bin bytes) fits = absurd fits.1
norm-bounded (NVarChar most) (Num n) fits = absurd fits.1
norm-bounded (NVarChar most) (Text characters) fits = (utf16le-bytes characters fits.0, omega (arith, length-utf16le characters, fits.1))
norm-bounded (NVarChar most) (Bin bytes) fits = absurd fits.1
norm-bounded (VarBinary most) (Num n) fits = absurd fits.1
norm-bounded (VarBinary most) (Text characters) fits = absurd fits.1
norm-bounded (VarBinary most) (Bin bytes) fits = fits
