-- A peer in memory, as contracts see it: which listed answer it gives to a request, and what it keeps.
use Rattle.std.specs.Prelude.{◌≡◌, ◌⊎◌, List, [], ◌∷◌, ◌++◌, Result, Ok, Err}
use Rattle.ae_base.specs.declared.faults.SqlFault.TheVariants as fault
use Rattle.wire_messages.specs.Exchanges.{Exchange, HasKinds}
use Rattle.wire_messages.specs.declared.replies.Reply.{Reply}
use Rattle.wire_messages.specs.declared.replies.Reply.TheVariants.{Refused}
use Rattle.wire_messages.specs.declared.requests.Request.{Request}

-- the listed answers that are left, and all that was asked and answered
pub record MemPeerState : Type 0 where
  pub answers : List (List Reply)
  pub exchanges : List Exchange

-- what is answered where no listed answer is
abbrev pub syntax_refusal : List Reply
syntax_refusal = Refused fault.Syntax ∷ []

-- there is a next answer, and it is of the request's kinds
abbrev pub NextSuits : Request → List (List Reply) → Type 0
NextSuits request [] = ⊥
NextSuits request (next ∷ answers) = HasKinds request next

-- the next answer is given and leaves where it suits; else Syntax is refused, and all answers stay
abbrev pub Gives : Request → List Reply → List (List Reply) → List (List Reply) → Type 0
Gives request replies old new =
    (NextSuits request old × (old ≡ replies ∷ new))
    ⊎ ((NextSuits request old → ⊥) × (replies ≡ syntax_refusal) × (new ≡ old))

-- one answer more is given and kept, or nothing has happened
abbrev pub MemAsks : {E : Type 0} → Request → Result (List Reply) E → MemPeerState → MemPeerState → Type 0
MemAsks request (Ok replies) old new =
    Gives request replies old.answers new.answers
    × (new.exchanges ≡ old.exchanges ++ record { request = request; replies = replies } ∷ [])
MemAsks request (Err e) old new = new ≡ old
