-- Laws of cell bytes.
use Rattle.std.specs.Prelude.{◌≡◌, ◌<◌, ◌≤◌, length}
use Rattle.std.specs.List.{All}
use Rattle.ae_base.specs.Values.{DatumFits}
use Rattle.ae_base.specs.declared.values.Datum.{Datum}
use Rattle.ae_base.specs.declared.types.Ty.{Ty}
use Rattle.value_norm.specs.Norm.{norm, most_bytes}

-- for one type, two data with the same cell bytes are one
abbrev pub NormIsOneToOne : Type 0
NormIsOneToOne = (ty : Ty) (v w : Datum) → DatumFits v ty → DatumFits w ty
    → norm v ty ≡ norm w ty → v ≡ w

-- cell bytes are bytes, and no more than the type has at most
abbrev pub NormIsBounded : Type 0
NormIsBounded = (ty : Ty) (v : Datum) → DatumFits v ty
    → All (λ byte. byte < 256) (norm v ty) × (length (norm v ty) ≤ most_bytes ty)
