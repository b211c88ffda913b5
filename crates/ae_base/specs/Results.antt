-- The result of a call beside what is defined: a value, a fault, or out of memory.
use Rattle.std.specs.Prelude.{◌≡◌, List, [], ◌∷◌, Option, Some, None, Result, Ok, Err}
use Rattle.ae_base.specs.declared.refusals.Refusal.{Refusal}
use Rattle.ae_base.specs.declared.refusals.Refusal.TheVariants.{Fault, OutOfMemory}

-- the value goes on, a fault stays
infixl 10 ◌>>=◌
abbrev pub ◌>>=◌ : {A B E : Type 0} → Result A E → (A → Result B E) → Result B E
(Ok x) >>= f = f x
(Err e) >>= f = Err e

-- each in turn, or the first fault
abbrev pub each : {A B E : Type 0} → (A → Result B E) → List A → Result (List B) E
each f [] = Ok []
each f (x ∷ xs) = f x >>= λ y. each f xs >>= λ ys. Ok (y ∷ ys)

abbrev pub or_fault : {A E : Type 0} → E → Option A → Result A E
or_fault fault None = Err fault
or_fault fault (Some x) = Ok x

-- a call answers what is defined, its value or its fault; out of memory says nothing of it
abbrev pub Answers : {A E : Type 0} → Result A (Refusal E) → Result A E → Type 0
Answers (Ok x) defined = defined ≡ Ok x
Answers (Err (Fault e)) defined = defined ≡ Err e
Answers (Err OutOfMemory) defined = Unit {0}

-- the same where the value is seen through a view
abbrev pub AnswersAs : {A B E : Type 0} → (A → B) → Result A (Refusal E) → Result B E → Type 0
AnswersAs view (Ok x) defined = defined ≡ Ok (view x)
AnswersAs view (Err (Fault e)) defined = defined ≡ Err e
AnswersAs view (Err OutOfMemory) defined = Unit {0}
