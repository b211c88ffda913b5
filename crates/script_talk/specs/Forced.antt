-- Lists of steps that differ in the values of forced parameters alone.
use Rattle.std.specs.Prelude.{◌≡◌, ◌⊎◌, ℕ, List, length, IsTrue}
use Rattle.std.specs.List.{AllZip}
use Rattle.ae_base.specs.Values.{DatumFits}
use Rattle.ae_base.specs.declared.batches.Batch.{Batch}
use Rattle.ae_base.specs.declared.batches.Param.{Param}
use Rattle.ae_base.specs.declared.types.Ty.{Ty}
use Rattle.ae_base.specs.declared.values.Value.{Value}
use Rattle.ae_base.specs.declared.values.Value.TheVariants as value
use Rattle.value_norm.specs.Norm.{norm}
use Rattle.conversation.specs.Sessions.{is_forced}
use Rattle.script_lang.specs.declared.steps.Act.{Act}
use Rattle.script_lang.specs.declared.steps.Act.TheVariants.{Whole, Half, Execute, Rotate}
use Rattle.script_lang.specs.declared.steps.Step.{Step}
use Rattle.script_lang.specs.declared.steps.Step.TheVariants.{Turn, Trust}

-- NULL goes with NULL; else both fit the type, and their cell bytes are equally long
abbrev pub AreAsLong : Ty → Value → Value → Type 0
AreAsLong ty value.Null value.Null = Unit {0}
AreAsLong ty (value.Is datum) (value.Is other) = DatumFits datum ty × DatumFits other ty × (length (norm other ty) ≡ length (norm datum ty))
AreAsLong ty v u = ⊥

-- one name and type, and one value, unless the parameter is forced
abbrev pub DiffersWhereForced : List (List ℕ) → Param → Param → Type 0
DiffersWhereForced forced p q =
    (q.declaration ≡ p.declaration) × ((q.value ≡ p.value) ⊎ (IsTrue (is_forced forced p) × AreAsLong p.declaration.ty p.value q.value))

pub record BatchesDiffer (batch other : Batch) : Type 0 where
  pub text : other.text ≡ batch.text
  pub forced : other.forced ≡ batch.forced
  pub params : AllZip (DiffersWhereForced batch.forced) batch.params other.params

-- a rotation has no parameters, so it differs in nothing
abbrev pub ActsDiffer : Act → Act → Type 0
ActsDiffer (Whole batch) (Whole other) = BatchesDiffer batch other
ActsDiffer (Half batch) (Half other) = BatchesDiffer batch other
ActsDiffer Execute Execute = Unit {0}
ActsDiffer (Rotate old new) (Rotate other by) = (other ≡ old) × (by ≡ new)
ActsDiffer act other = ⊥

abbrev pub StepDiffers : Step → Step → Type 0
StepDiffers (Turn number act) (Turn n other) = (n ≡ number) × ActsDiffer act other
StepDiffers (Trust path) (Trust other) = other ≡ path
StepDiffers step other = ⊥

-- step by step
abbrev pub StepsDiffer : List Step → List Step → Type 0
StepsDiffer steps others = AllZip StepDiffers steps others
