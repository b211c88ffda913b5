-- One call after another in a turn.
use Rattle.std.proofs.Common.{◌≡◌, ℕ, List, Option, None, Result, Ok, Err, Bool, true, false, refl, sym, ◌∙◌, ap, subst, inl, inr}
use Rattle.std.specs.Prelude.{IfOk}
use Rattle.std.specs.declared.alloc.AllocError.{AllocError}
use Rattle.ae_base.specs.declared.batches.Batch.{Batch}
use Rattle.wire_messages.specs.declared.requests.Request.{Request}
use Rattle.conversation.specs.declared.faults.DriverFault.{DriverFault}
use Rattle.conversation.specs.declared.outcomes.DescribedParam.{DescribedParam}
use Rattle.conversation.specs.declared.outcomes.Listing.{Listing}
use Rattle.conversation.specs.declared.outcomes.Outcome.{Outcome}
use Rattle.conversation.specs.declared.outcomes.Outcome.TheVariants as outcome
use Rattle.conversation.specs.declared.sessions.Session.{Session}
use Rattle.conversation.specs.declared.sessions.Session.TheVariants.{Idle, Begun, Pending, Sent, Reading, Skipping}
use Rattle.conversation.specs.declared.sessions.Turn.{Turn}
use Rattle.conversation.specs.Batches.{fit_batch}
use Rattle.conversation.specs.Pending as told
use Rattle.conversation.specs.Pending.{uses_of}
use Rattle.conversation.specs.Sessions.{begin, begun, described_params}
use Rattle.conversation.specs.Talk.{Talk, Prints, Heard, Said, nothing_shown}
use Rattle.conversation.specs.Turns.{Accepted, Onward, hearing, saying, outcome_or, rested, over_on, pending_on, executing}
use Rattle.ae_edge.specs.Vaults.{KeyMap}
use Rattle.driver.specs.Accepted.{accepted_begun}
use Rattle.driver.specs.Clients.{Client, columns_of, session_of}
use Rattle.script_run.specs.Shares.{Outside}
use Rattle.script_run.specs.Ways.{Proceeds, Advances}
use Rattle.script_run.specs.declared.stops.Stop.{Stop}
use Rattle.script_run.proofs.Going.{leads_then}
use Rattle.script_run.specs.declared.turns.Described.{Described}
use Rattle.script_run.specs.declared.turns.Described.TheVariants as described
use Rattle.script_run.specs.Heard.{is_skipping}
use Rattle.script_run.specs.Onward.{IsBegun, IsBlind, IsCleared, IsRows, IsReady, Keeps, LooksAside, SaysThen}

-- ---- what is said

pub nothing_said : (aloud : Bool) (t : Talk) → saying aloud None t ≡ t
nothing_said true t = refl
nothing_said false t = refl

-- ---- rows, and what is left of an answer

module _ (aloud : Bool) (session after : Session) (shown : Listing) (comes : Option Outcome) (f : Heard → Talk) (k : Outcome → Session → Talk) (then : SaysThen aloud f k) (x y : Outside)
    (heard : (f : Heard → Talk) → Proceeds (hearing aloud session shown f) (f (Said comes after)) x y) where
  heard_so : Proceeds (hearing aloud session shown f) (saying aloud comes (k (outcome_or comes) after)) x y
  heard_so = subst (λ t. Proceeds (hearing aloud session shown f) t x y) (then comes after) (heard f)

  pub heard_out : (result : Result Outcome Stop) (z : Outside) → ((onward : Outcome → Talk) → Advances result (saying aloud comes (onward (outcome_or comes))) onward y z)
      → Advances result (hearing aloud session shown f) (λ o. k o after) x z
  heard_out result z said = leads_then result _ _ (λ o. k o after) _ _ _ heard_so (said (λ o. k o after))

-- over rows that are skipped
pub skips : (aloud : Bool) (session : Session) (k : Session → Talk) → is_skipping session ≡ true → rested aloud k session ≡ hearing aloud session nothing_shown (over_on aloud k)
skips aloud (Skipping columns count) k e = refl
skips aloud Idle k e = cc
skips aloud (Begun batch) k e = cc
skips aloud (Pending pending) k e = cc
skips aloud Sent k e = cc
skips aloud (Reading columns keys count) k e = cc

pub skips_rows : (session : Session) → is_skipping session ≡ true → IsRows session
skips_rows (Skipping columns count) e = tt
skips_rows Idle e = cc
skips_rows (Begun batch) e = cc
skips_rows (Pending pending) e = cc
skips_rows Sent e = cc
skips_rows (Reading columns keys count) e = cc

pub skips_none : (aloud : Bool) (session : Session) (k : Session → Talk) → is_skipping session ≡ false → rested aloud k session ≡ k session
skips_none aloud (Skipping columns count) k e = cc
skips_none aloud Idle k e = refl
skips_none aloud (Begun batch) k e = refl
skips_none aloud (Pending pending) k e = refl
skips_none aloud Sent k e = refl
skips_none aloud (Reading columns keys count) k e = refl

-- ---- the columns that a session accepted

-- they stay
pub columns_on : (result : Result Outcome Stop) (t : Talk) (k : Onward) (number : ℕ) (a b : Client) (keys : Option KeyMap) (x y : Outside) → IfOk result (λ o. Keeps number a b keys)
    → Advances result t (λ o. k o (columns_of a number) (session_of b number)) x y → Advances result t (λ o. k o (columns_of b number) (session_of b number)) x y
columns_on (Ok o) t k number a b keys x y l g = subst (λ w. Proceeds t (k o w (session_of b number)) x y) (sym l.columns) g
columns_on (Err s) t k number a b keys x y l g = g

-- none were there, and it goes on by none
pub aside_on : (result : Result Outcome Stop) (t : Talk) (k : Onward) (columns : Accepted) (after : Session) (x y : Outside) → LooksAside columns k
    → Advances result t (λ o. k o None after) x y → Advances result t (λ o. k o columns after) x y
aside_on (Ok o) t k columns after x y a g = subst (λ w. Proceeds t w x y) (sym (a o after)) g
aside_on (Err s) t k columns after x y a g = g

pub aside_by : (k : Onward) (old new : Accepted) → new ≡ old → LooksAside old k → LooksAside new k
aside_by k old new e a = subst (λ w. LooksAside w k) (sym e) a

pub aside_none : (k : Onward) (columns : Accepted) → columns ≡ None → LooksAside columns k
aside_none k columns e = aside_by k None columns e (λ comes after. refl)

-- a batch that is begun has none
pub begun_clears : (answer : Result Request DriverFault) (old new : Accepted) → new ≡ accepted_begun {E = AllocError} (Ok answer) old → IfOk answer (λ request. new ≡ None)
begun_clears (Ok request) old new e = e
begun_clears (Err f) old new e = tt

pub cleared_kept : (result : Result Described Stop) (number : ℕ) (a b : Client) (keys : Option KeyMap)
    → columns_of a number ≡ None → IfOk result (λ o. Keeps number a b keys) → IfOk result (IsCleared (columns_of b number))
cleared_kept (Ok (described.Ready params)) number a b keys e l = l.columns ∙ e
cleared_kept (Ok (described.Refused comes)) number a b keys e l = inl (l.columns ∙ e)
cleared_kept (Err s) number a b keys e l = tt

pub cleared_failed : (result : Result Described Stop) (f : DriverFault) (columns : Accepted) → IfOk result (λ d. d ≡ described.Refused (outcome.Failed f)) → IfOk result (IsCleared columns)
cleared_failed (Ok d) f columns e = subst (IsCleared columns) (sym e) (inr (f, refl))
cleared_failed (Err s) f columns e = tt

pub refused_ready : (result : Result Described Stop) (comes : Outcome) (after : Session) → IfOk result (λ d. d ≡ described.Refused comes) → IfOk result (IsReady after)
refused_ready (Ok d) comes after e = subst (IsReady after) (sym e) tt
refused_ready (Err s) comes after e = tt

refused_on : (k : Onward) → IsBlind k → (columns : Accepted) (after : Session) (comes : Outcome) → IsCleared columns (described.Refused comes) → k comes columns after ≡ k comes None after
refused_on k blind columns after comes (inl e) = ap (λ w. k comes w after) e
refused_on k blind columns after comes (inr h) = ap (λ w. k w columns after) h.1 ∙ blind h.0 columns after ∙ ap (λ w. k w None after) (sym h.1)

pub refused_goes : (k : Onward) → IsBlind k → (columns : Accepted) (after : Session) (comes : Outcome) → IsCleared columns (described.Refused comes) → (t : Talk) (x y : Outside)
    → Proceeds t (k comes None after) x y → Proceeds t (k comes columns after) x y
refused_goes k blind columns after comes c t x y g = subst (λ w. Proceeds t w x y) (sym (refused_on k blind columns after comes c)) g

-- ---- a description

-- a batch whose description is asked is begun
abbrev Asks : Turn (Result Request DriverFault) → Type 0
Asks turn = IfOk turn.answer (λ request. IsBegun turn.after)

begun_by : (number : ℕ) (fit : Result Batch DriverFault) → Asks (begun number fit)
begun_by number (Ok batch) = tt
begun_by number (Err f) = tt

begin_asks : (session : Session) (number : ℕ) (batch : Batch) → Asks (begin session number batch)
begin_asks Idle number batch = begun_by number (fit_batch batch)
begin_asks (Begun other) number batch = tt
begin_asks (Pending pending) number batch = tt
begin_asks Sent number batch = tt
begin_asks (Reading columns keys count) number batch = tt
begin_asks (Skipping columns count) number batch = tt

pub begins : (session : Session) (number : ℕ) (batch : Batch) (answer : Result Request DriverFault) (after : Session)
    → begin session number batch ≡ record { answer = answer; after = after } → IfOk answer (λ request. IsBegun after)
begins session number batch answer after e = subst Asks e (begin_asks session number batch)

-- a batch that is refused leaves nothing pending
pub pending_idle : (ready : told.Pending → Talk) (k : Session → Talk) (after : Session) → after ≡ Idle → pending_on ready k after ≡ k after
pending_idle ready k after e = rw e refl

-- ---- what is pending, once it was described

module _ (after : Session) (params : List DescribedParam) (r : IsReady after (described.Ready params)) (t : Talk) (x y z : Outside) where
  pending_ready : (ready : told.Pending → Talk) (k : Session → Talk) → pending_on ready k after ≡ ready r.0
  pending_ready ready k = let e = r.1 in rw e refl

  pub then_executed : (aloud : Bool) (k : Onward) (rest : Session → Talk) (trusted : List (List ℕ)) (number : ℕ) (result : Result Outcome Stop) (on : Outcome → Talk)
      → Proceeds t (pending_on (λ p. executing aloud trusted number (Pending p) k) rest after) x y → Advances result (executing aloud trusted number after k) on y z → Advances result t on x z
  then_executed aloud k rest trusted number result on g h =
      leads_then result t (executing aloud trusted number after k) on x y z
      (subst (λ w. Proceeds t w x y) (pending_ready (λ p. executing aloud trusted number (Pending p) k) rest ∙ ap (λ w. executing aloud trusted number w k) (sym r.1)) g) h

  pub then_told : (k rest : Session → Talk) (result : Result (Unit {0}) Stop) (on : Talk)
      → Proceeds t (pending_on (λ p. Prints (outcome.Described (described_params p.keys (uses_of p))) (k (Pending p))) rest after) x y
      → Advances result (Prints (outcome.Described params) (k after)) (λ o. on) y z → Advances result t (λ o. on) x z
  then_told k rest result on g h =
      leads_then result t (Prints (outcome.Described params) (k after)) (λ o. on) x y z
      (subst (λ w. Proceeds t w x y)
      (pending_ready (λ p. Prints (outcome.Described (described_params p.keys (uses_of p))) (k (Pending p))) rest
      ∙ ap (λ w. Prints (outcome.Described w) (k (Pending r.0))) (sym r.2) ∙ ap (λ w. Prints (outcome.Described params) (k w)) (sym r.1)) g) h
