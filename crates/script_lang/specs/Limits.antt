-- What every step of a script meets.
use Rattle.std.specs.Prelude.{ℕ, ◌≤◌, List, length, map, IsTrue}
use Rattle.std.specs.List.{All}
use Rattle.std.specs.Str.{all_scalars}
use Rattle.ae_base.specs.Names.{IsName, all_differ}
use Rattle.ae_base.specs.Sessions.{IsSession}
use Rattle.ae_base.specs.Types.{IsType}
use Rattle.ae_base.specs.Values.{IsProper}
use Rattle.ae_base.specs.declared.batches.Batch.{Batch}
use Rattle.ae_base.specs.declared.batches.Param.{Param}
use Rattle.script_lang.specs.declared.steps.Act.{Act}
use Rattle.script_lang.specs.declared.steps.Act.TheVariants.{Whole, Half, Execute, Rotate}
use Rattle.script_lang.specs.declared.steps.Step.{Step}
use Rattle.script_lang.specs.declared.steps.Step.TheVariants.{Turn, Trust}

-- at most 128 parameters, whose names differ
abbrev pub HasParams : Batch → Type 0
HasParams batch = (length batch.params ≤ 128) × IsTrue (all_differ (map (λ p. p.declaration.name) batch.params))

-- what holds of a turn's own batch, where it has one
abbrev pub OfBatch : (Batch → Type 0) → Act → Type 0
OfBatch P (Whole batch) = P batch
OfBatch P (Half batch) = P batch
OfBatch P Execute = Unit {0}
OfBatch P (Rotate old new) = Unit {0}

-- what holds of the names of both tables of a rotation
abbrev pub OfTables : (List ℕ → Type 0) → Act → Type 0
OfTables P (Whole batch) = Unit {0}
OfTables P (Half batch) = Unit {0}
OfTables P Execute = Unit {0}
OfTables P (Rotate old new) = P old × P new

-- the session is one from 1 to 64, and tables have names
abbrev pub IsWithinLimits : Step → Type 0
IsWithinLimits (Turn session act) = IsSession session × OfBatch HasParams act × OfTables IsName act
IsWithinLimits (Trust path) = Unit {0}

-- a parameter's value is proper, and its type is one
abbrev pub IsProperParam : Param → Type 0
IsProperParam p = IsProper p.value × IsType p.declaration.ty

abbrev pub HasProperParams : Batch → Type 0
HasProperParams batch = All IsProperParam batch.params

-- a name's characters are Unicode scalar values
abbrev pub IsProperName : List ℕ → Type 0
IsProperName name = IsTrue (all_scalars name)

abbrev pub IsProperStep : Step → Type 0
IsProperStep (Turn session act) = OfBatch HasProperParams act × OfTables IsProperName act
IsProperStep (Trust path) = Unit {0}
