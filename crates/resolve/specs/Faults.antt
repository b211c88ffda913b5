-- The faults that binding answers.
use Rattle.ae_base.specs.declared.faults.SqlFault.{SqlFault}
use Rattle.ae_base.specs.declared.refusals.Refusal.{Refusal}
use Rattle.ae_base.specs.declared.refusals.Refusal.TheVariants.{Fault, OutOfMemory}
use Rattle.expression_binding.specs.Faults.{IsStatementFault}

abbrev pub IsBindFault : Refusal SqlFault → Type 0
IsBindFault (Fault f) = IsStatementFault f
IsBindFault OutOfMemory = Unit {0}
