-- What a peer in memory gives is of the request's kinds.
use Rattle.std.proofs.Common.{◌≡◌, List, ◌∷◌, Result, Ok, Err, MatchResult, IfOk, sym, subst}
use Rattle.ae_base.specs.declared.faults.SqlFault.TheVariants as fault
use Rattle.wire_messages.specs.Exchanges.{HasKinds, Refusal}
use Rattle.wire_messages.specs.declared.replies.Reply.{Reply}
use Rattle.wire_messages.specs.declared.requests.Request.{Request}
use Rattle.mem_peer.specs.MemPeers.{NextSuits, syntax_refusal}

-- the next answer
pub given : {E : Type 0} (request : Request) (result : Result (List Reply) E) (P : List Reply → Type 0) (Q : E → Type 0) (old new : List (List Reply)) → NextSuits request old
    → MatchResult result (λ replies. (old ≡ replies ∷ new) × P replies) Q → IfOk result (λ replies. HasKinds request replies)
given request (Ok replies) P Q old new next m = subst (NextSuits request) m.0 next
given request (Err e) P Q old new next m = tt

-- the refusal
pub refused : {E : Type 0} (request : Request) (result : Result (List Reply) E) (P : List Reply → Type 0) (Q : E → Type 0)
    → MatchResult result (λ replies. (replies ≡ syntax_refusal) × P replies) Q → IfOk result (λ replies. HasKinds request replies)
refused request (Ok replies) P Q m = subst (HasKinds request) (sym m.0) (Refusal request fault.Syntax)
refused request (Err e) P Q m = tt
