-- The faults that a text has.
use Rattle.std.specs.Prelude.{◌≡◌, ℕ, ◌⊎◌}
use Rattle.ae_base.specs.declared.faults.SqlFault.{SqlFault}
use Rattle.ae_base.specs.declared.faults.SqlFault.TheVariants as fault
use Rattle.ae_base.specs.declared.refusals.Refusal.{Refusal}
use Rattle.ae_base.specs.declared.refusals.Refusal.TheVariants.{Fault, OutOfMemory}

abbrev pub IsTextFault : SqlFault → Type 0
IsTextFault f = (f ≡ fault.Syntax) ⊎ ((at : ℕ) × (f ≡ fault.NumberTooWide at)) ⊎ (f ≡ fault.TooDeep) ⊎ (f ≡ fault.TooLong)

abbrev pub IsParseFault : Refusal SqlFault → Type 0
IsParseFault (Fault f) = IsTextFault f
IsParseFault OutOfMemory = Unit {0}
