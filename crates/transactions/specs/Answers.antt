-- What a call answered and left.
use Rattle.std.specs.Prelude.{◌≡◌, Bool, true, false, Result, Ok, Err}
use Rattle.ae_base.specs.declared.faults.SqlFault.{SqlFault}
use Rattle.ae_base.specs.declared.faults.SqlFault.TheVariants.{InTransaction}
use Rattle.ae_base.specs.declared.refusals.Refusal.{Refusal}
use Rattle.ae_base.specs.declared.refusals.Refusal.TheVariants.{Fault, OutOfMemory}
use Rattle.engine.specs.Answers.{answer_of}
use Rattle.engine.specs.declared.answers.Answer as code
use Rattle.transactions.specs.Counted.{Counted, CountedOutcome, Execution, counted_step}
use Rattle.transactions.specs.Stores.{Transaction, Store, Transacted, stepped_in}

-- A statement over a world. After a fault the world is as before; so it is out of memory.
abbrev pub GivesCounted : {K : Type 0} → Result (code.Answer K) (Refusal SqlFault) → Counted → Counted → CountedOutcome → Type 0
GivesCounted (Ok answer) old new outcome = outcome ≡ record { answer = Ok (answer_of answer); after = new }
GivesCounted (Err (Fault fault)) old new outcome = (outcome ≡ record { answer = Err fault; after = new }) × (new ≡ old)
GivesCounted (Err OutOfMemory) old new outcome = new ≡ old

-- A statement in a transaction. A refused one has used its tables; out of memory the transaction is as before.
abbrev pub StepsIn : {K : Type 0} → Result (code.Answer K) (Refusal SqlFault) → Transaction → Transaction → Execution → Type 0
StepsIn (Ok answer) old new e = ((counted_step old.own e).answer ≡ Ok (answer_of answer)) × (new ≡ stepped_in old e (counted_step old.own e))
StepsIn (Err (Fault fault)) old new e = ((counted_step old.own e).answer ≡ Err fault) × (new ≡ stepped_in old e (counted_step old.own e))
StepsIn (Err OutOfMemory) old new e = new ≡ old

-- A definition has no place in a transaction.
abbrev pub StepsWhere : {K : Type 0} → (is_definition : Bool) → Result (code.Answer K) (Refusal SqlFault) → Transaction → Transaction → Execution → Type 0
StepsWhere true (Ok answer) old new e = ⊥
StepsWhere true (Err (Fault fault)) old new e = (fault ≡ InTransaction) × (new ≡ old)
StepsWhere true (Err OutOfMemory) old new e = ⊥
StepsWhere false result old new e = StepsIn result old new e

-- What a session asked. A refused COMMIT has ended its transaction; out of memory the state is as before.
abbrev pub Transacts : {K : Type 0} → Result (code.Answer K) (Refusal SqlFault) → Store → Store → Transacted → Type 0
Transacts (Ok answer) old new transacted = transacted ≡ record { answer = Ok (answer_of answer); after = new }
Transacts (Err (Fault fault)) old new transacted = transacted ≡ record { answer = Err fault; after = new }
Transacts (Err OutOfMemory) old new transacted = new ≡ old
