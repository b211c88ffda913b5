-- What the reading functions answer, case by case.
use Rattle.std.specs.Prelude.{◌≡◌, List, Option, Some, None, Result, Ok, Err}
use Rattle.ae_base.specs.declared.faults.SqlFault.{SqlFault}
use Rattle.ae_base.specs.declared.faults.SqlFault.TheVariants as fault
use Rattle.ae_base.specs.declared.refusals.Refusal.{Refusal}
use Rattle.ae_base.specs.declared.refusals.Refusal.TheVariants.{Fault, OutOfMemory}
use Rattle.sql_tree.specs.declared.lexemes.Token.{Token}

-- nothing is read: Syntax is the only fault
abbrev pub Fails : {Y : Type 0} → Refusal SqlFault → Option Y → Type 0
Fails (Fault f) read = (f ≡ fault.Syntax) × (read ≡ None)
Fails OutOfMemory read = Unit {0}

-- what was read, seen by view, and the rest are what reading the tokens gives, unless memory runs out
abbrev pub Gives : {X Y : Type 0} → (X → Y) → Result X (Refusal SqlFault) → List Token → Option (Y × List Token) → Type 0
Gives view (Ok x) rest read = read ≡ Some (view x, rest)
Gives view (Err e) rest read = Fails e read

-- what was read of one thing, seen by view, is what is defined, unless memory runs out
abbrev pub Reads : {X Y : Type 0} → (X → Y) → Result X (Refusal SqlFault) → Option Y → Type 0
Reads view (Ok x) read = read ≡ Some (view x)
Reads view (Err e) read = Fails e read
