-- A new driver is idle; it sends a batch that uses no parameter as it is, and says of the reply what it says.
use Rattle.std.proofs.Common.{◌≡◌, ℕ, zero, suc, ◌-◌, List, [], Result, Ok, Err, refl, sym, ap, ◌∙◌, subst}
use Rattle.std.specs.Prelude.{replicate, slice_index_or}
use Rattle.ae_edge.specs.Devices.{Device, silent}
use Rattle.ae_edge.specs.Vaults.{KeyMap}
use Rattle.wire_messages.specs.declared.replies.Reply.{Reply}
use Rattle.wire_messages.specs.declared.requests.Request.{Request}
use Rattle.wire_messages.specs.declared.requests.Request.TheVariants.{Execute}
use Rattle.conversation.specs.Devices.{Devices, AreOwn, IsAtDraw, IsAtKey}
use Rattle.conversation.specs.Paths.{Event, Follows, stays, asks}
use Rattle.conversation.specs.Pending.{Pending}
use Rattle.conversation.specs.Sessions.{Tells, answered, nobody, session_at}
use Rattle.conversation.specs.Talk.{Talk, Asks, Ends}
use Rattle.conversation.specs.Turns.{execute}
use Rattle.conversation.specs.declared.answers.ExecuteAnswer.{ExecuteAnswer}
use Rattle.conversation.specs.declared.faults.DriverFault.{DriverFault}
use Rattle.conversation.specs.declared.faults.Halt.{Halt}
use Rattle.conversation.specs.declared.faults.Halt.TheVariants as halt
use Rattle.conversation.specs.declared.outcomes.Outcome.{Outcome}
use Rattle.conversation.specs.declared.sessions.Session.{Session}
use Rattle.conversation.specs.declared.sessions.Session.TheVariants as session
use Rattle.driver.specs.Calls.{Answers, Executes}
use Rattle.check_command.specs.Asked.{AnswersAs, IsUnused, OrShort, Says}

-- ---- its sessions

pub same_there : {A : Type 0} (x : A) (n k : ℕ) → slice_index_or (replicate n x) k x ≡ x
same_there x zero k = refl
same_there x (suc n) zero = refl
same_there x (suc n) (suc k) = same_there x n k

pub idle_at : (sessions : List Session) (number : ℕ) → sessions ≡ nobody → session_at sessions number ≡ session.Idle
idle_at sessions number e = ap (λ all. session_at all number) e ∙ same_there session.Idle 64 (number - 1)

-- ---- the request

-- before a request is asked the driver does nothing by itself
at_ask : (r : Request) (t u : Talk) (events : List Event) → Follows (Asks r t) events u → AreOwn events → u ≡ Asks r t
at_ask _ _ _ _ (stays _) own = refl
at_ask _ _ _ _ (asks r replies t u events follows) own = absurd own

-- a conversation that tells what is sent
abbrev telling : Result Request DriverFault → Session → Talk
telling (Ok r) after = Asks r (Ends [])
telling (Err f) after = Ends []

told_one : (x : Result Request DriverFault) (after : Session) (r : Request) → telling x after ≡ Asks r (Ends []) → x ≡ Ok r
told_one (Ok y) after r e = cc
told_one (Err f) after r e = absurd cc

-- what is pending is sent without parameters
abbrev pub SendsAs : ℕ → Session → Result Request DriverFault → Type 0
SendsAs number s x = (p : Pending) → s ≡ session.Pending p → x ≡ Ok (Execute number p.version p.batch.text [])

module _ (trusted : List (List ℕ)) (number : ℕ) (s : Session) (unused : IsUnused s) (old new : Devices) where
  abbrev sent : Talk
  sent = Asks (Execute number unused.batch.version unused.batch.batch.text []) (Ends [])

  way : execute trusted number s telling ≡ sent
  way = let e = unused.holds in let u = unused.unused in rw (e, u) refl

  stays_there : (u : Talk) (events : List Event) → Follows (execute trusted number s telling) events u → AreOwn events → u ≡ sent
  stays_there u events follows own = at_ask _ _ u events (subst (λ t. Follows t events u) way follows) own

  one_pending : (p : Pending) → s ≡ session.Pending p → unused.batch ≡ p
  one_pending p e = let i = sym unused.holds ∙ e in cc

  pub sent_as : (r : Result (Result Request DriverFault) Halt) (after : Session) → Executes trusted r number s after old new → OrShort (SendsAs number s) r
  sent_as (Ok x) after h =
      let g = h telling in
      let t = told_one x after _ (stays_there (telling x after) g.events g.follows g.own) in
      λ p e. t ∙ ap (λ (q : Pending). let r : Result Request DriverFault = Ok (Execute number q.version q.batch.text []) in r) (one_pending p e)
  sent_as (Err halt.OutOfMemory) after h = tt
  sent_as (Err halt.BadReply) after h = h.1 telling
  sent_as (Err halt.EntropyFault) after h = let t = h.1 telling in subst IsAtDraw (stays_there t.rest t.events t.follows t.own) t.place
  sent_as (Err halt.VaultFault) after h = let t = h.1 telling in subst IsAtKey (stays_there t.rest t.events t.follows t.own) t.place

-- ---- the reply

says_so : (trusted : List (List ℕ)) (after : Session) (old new : Devices) (comes : Outcome) (r : Result ExecuteAnswer Halt)
    → Answers trusted r (Tells comes) session.Sent after old new → OrShort (Says comes) r
says_so trusted after old new comes (Ok y) h = h.0
says_so trusted after old new comes (Err halt.BadReply) h = let e = h.0 in absurd cc
says_so trusted after old new comes (Err halt.OutOfMemory) h = tt
says_so trusted after old new comes (Err halt.EntropyFault) h = absurd h
says_so trusted after old new comes (Err halt.VaultFault) h = let e = h.1.0 in absurd cc

pub heard_as : (trusted : List (List ℕ)) (r : Result ExecuteAnswer Halt) (s after : Session) → s ≡ session.Sent
    → (a b : Device KeyMap) (replies : List Reply) (x : Reply) → x ≡ slice_index_or replies 0 x
    → ((beside : Devices) → Answers trusted r (answered s x) s after (record beside { vault = a }) (record beside { vault = b }))
    → (comes : Outcome) → AnswersAs replies comes → OrShort (Says comes) r
heard_as trusted r s after e a b replies x i h comes w =
    let old : Devices = record { entropy = silent 0; vault = a } in
    let new : Devices = record { entropy = silent 0; vault = b } in
    let one = w.1 in
    let same : x ≡ w.0 = rw one at i in
    let told : answered s x ≡ Tells comes = rw (e, same) w.2 in
    says_so trusted after old new comes r
    (subst (λ y. Answers trusted r (Tells comes) y after old new) e (subst (λ t. Answers trusted r t s after old new) told (h old)))
