-- A batch in two sessions, where it differs in forced values alone.
use Rattle.std.proofs.Common.{◌≡◌, ◌⊎◌, inl, inr, ℕ, suc, List, [], ◌∷◌, ◌++◌, map, Option, Some, None, Ok, Err, Bool, refl, sym, ap, ◌∙◌, subst}
use Rattle.std.specs.Prelude.{Contains}
use Rattle.std.proofs.lemmas.List.Elements.{Contains-append_left}
use Rattle.ae_base.specs.declared.batches.Batch.{Batch}
use Rattle.ae_base.specs.declared.batches.Param.{Param}
use Rattle.ae_base.specs.declared.types.Enc.{Enc}
use Rattle.ae_edge.specs.Vaults.{KeyMap}
use Rattle.aes_block.specs.Bytes.{AreBytes}
use Rattle.wire_messages.specs.Messages.{Description}
use Rattle.wire_messages.specs.declared.params.SentParam.{SentParam}
use Rattle.wire_messages.specs.declared.replies.Reply.{Reply}
use Rattle.wire_messages.specs.declared.replies.Reply.TheVariants as reply
use Rattle.wire_messages.specs.declared.requests.Request.{Request}
use Rattle.wire_messages.specs.declared.requests.Request.TheVariants as request
use Rattle.conversation.specs.Batches.{why_unfit, unless}
use Rattle.conversation.specs.Drive.{Listened, Lost, heard_one, listen, driven_on, drive}
use Rattle.conversation.specs.Pending.{Pending}
use Rattle.conversation.specs.Sessions.{begun, encs_of, first_open, described_as, readied}
use Rattle.conversation.specs.Talk.{Talk, Said, heard_description, described_outcome, nothing_shown}
use Rattle.conversation.specs.Turns.{Accepted, Onward, hearing, saying, answered_on, asked, described_on, describing, executing}
use Rattle.conversation.specs.declared.answers.DescribeAnswer.{DescribeAnswer}
use Rattle.conversation.specs.declared.faults.DriverFault.{DriverFault}
use Rattle.conversation.specs.declared.faults.DriverFault.TheVariants as fault
use Rattle.conversation.specs.declared.outcomes.Listing.{Listing}
use Rattle.conversation.specs.declared.outcomes.Outcome as outcomes
use Rattle.conversation.specs.declared.outcomes.Outcome.TheVariants as outcome
use Rattle.conversation.specs.declared.sessions.Session.{Session}
use Rattle.conversation.specs.declared.sessions.Session.TheVariants as session
use Rattle.conversation.specs.declared.sessions.Turn.{Turn}
use Rattle.script_talk.specs.Forced.{BatchesDiffer}
use Rattle.script_talk.specs.Laws.{AreDrivenAlike}
use Rattle.script_talk.specs.Sent.{Pair, IsAskedAlike}
use Rattle.script_talk.proofs.Alike.{Good, IsFree, asks, hearing_goes, missed_goes, saying_goes, sent_goes}
use Rattle.script_talk.proofs.Forcing.{declarations_same, encs_same, open_same, unfit_same}
use Rattle.script_talk.proofs.Lengths.{CellLaws}
use Rattle.script_talk.proofs.Sealing.{sealing_goes}

-- one of these pairs, described alike, whose forced parameters are sealed
pub record ArePending (pairs : List Pair) (number : ℕ) (p q : Pending) : Type 0 where
  pub pair : Pair
  pub there : Contains pairs pair
  pub session : pair.session ≡ number
  pub batch : p.batch ≡ pair.batch
  pub is : q ≡ record { batch = pair.other; version = p.version; keys = p.keys; encs = p.encs }
  pub differ : BatchesDiffer pair.batch pair.other
  pub closed : first_open pair.batch.forced pair.batch.params p.encs ≡ None

-- two sessions: one that holds no batch, twice; or batches that are pending so
abbrev pub Held : List Pair → ℕ → Session → Session → Type 0
Held pairs number s t = ((t ≡ s) × IsFree s) ⊎ ((p q : Pending) × (s ≡ session.Pending p) × (t ≡ session.Pending q) × ArePending pairs number p q)

pub idle_held : (pairs : List Pair) (number : ℕ) → Held pairs number session.Idle session.Idle
idle_held pairs number = inl (refl, tt)

pub held_more : (pairs more : List Pair) (number : ℕ) (s t : Session) → Held pairs number s t → Held (pairs ++ more) number s t
held_more pairs more number s t (inl h) = inl h
held_more pairs more number s t (inr (p, q, e, d, h)) = inr (
  p,
  q,
  e,
  d,
  record {
    pair = h.pair;
    there = Contains-append_left pairs more h.pair h.there;
    session = h.session;
    batch = h.batch;
    is = h.is;
    differ = h.differ;
    closed = h.closed;
  },
)

module _ (below : CellLaws) (keys : KeyMap) (Pairs : Request → Request → Type 0) (paths : List (List ℕ)) (pairs : List Pair) (number : ℕ)
    (asked_so : (r s : Request) → IsAskedAlike keys paths pairs number r s → Pairs r s) (aloud : Bool) (Behind : Session → Session → Type 0) (free_behind : (s : Session) → IsFree s → Behind s s)
    (k j : Onward) (go : (comes : outcomes.Outcome) (accepted : Accepted) (s t : Session) → Behind s t → Good keys Pairs (k comes accepted s) (j comes accepted t)) where
  abbrev Follow : Talk → Talk → Type 0
  Follow t u = Good keys Pairs t u

  go_free : (comes : outcomes.Outcome) (accepted : Accepted) (s : Session) → IsFree s → Follow (k comes accepted s) (j comes accepted s)
  go_free comes accepted s i = go comes accepted s s (free_behind s i)

  fails : (f : DriverFault) (s t : Session) → Behind s t
      → Follow (saying aloud (Some (outcome.Failed f)) (k (outcome.Failed f) None s)) (saying aloud (Some (outcome.Failed f)) (j (outcome.Failed f) None t))
  fails f s t h = saying_goes keys Pairs aloud (Some (outcome.Failed f)) (k (outcome.Failed f) None s) (j (outcome.Failed f) None t) (go (outcome.Failed f) None s t h)

  -- ---- what is pending is executed

  abbrev sends : ℕ → List ℕ → Onward → List SentParam → Talk
  sends version text k sent = asked aloud (λ after. hearing aloud after nothing_shown (answered_on aloud paths k)) k (Ok (request.Execute number version text sent)) session.Sent

  abbrev refuses : Onward → DriverFault → Talk
  refuses k f = asked aloud (λ after. hearing aloud after nothing_shown (answered_on aloud paths k)) k (Err f) session.Idle

  pub pair_executes : (p q : Pending) → ArePending pairs number p q → Follow (executing aloud paths number (session.Pending p) k) (executing aloud paths number (session.Pending q) j)
  pair_executes p q h =
      let batch = h.pair.batch in
      let other = h.pair.other in
      let executes : (x y : Pending) → Type 0 = λ x y. Follow (executing aloud paths number (session.Pending x) k) (executing aloud paths number (session.Pending y) j) in
      let first : Pending = record { batch = batch; version = p.version; keys = p.keys; encs = p.encs } in
      let second : Pending = record { batch = other; version = p.version; keys = p.keys; encs = p.encs } in
      let same : p ≡ first = ap (λ (b : Batch). let x : Pending = record { batch = b; version = p.version; keys = p.keys; encs = p.encs } in x) h.batch in
      subst (λ x. executes x q) (sym same) (subst (λ y. executes first y) (sym h.is)
      (sealing_goes below keys Pairs paths p.keys batch.forced batch.params other.params p.encs h.differ.params
      h.closed (sends p.version batch.text k) (sends p.version other.text j) (refuses k) (refuses j)
      (λ sent others s.
      asks keys Pairs (request.Execute number p.version batch.text sent) (request.Execute number p.version other.text others)
      (hearing aloud session.Sent nothing_shown (answered_on aloud paths k)) (hearing aloud session.Sent nothing_shown (answered_on aloud paths j))
      (asked_so (request.Execute number p.version batch.text sent) (request.Execute number p.version other.text others)
      (inr (h.pair, h.there, h.session, (sym h.session, sym h.session, refl, h.differ.text, refl, s))))
      (sent_goes keys Pairs aloud k j go_free paths))
      (λ f. fails f session.Idle session.Idle (free_behind session.Idle tt))))

  free_executes : (s : Session) → IsFree s → Follow (executing aloud paths number s k) (executing aloud paths number s j)
  free_executes session.Idle i = fails fault.NothingPending session.Idle session.Idle (free_behind session.Idle i)
  free_executes session.Sent i = fails fault.NothingPending session.Sent session.Sent (free_behind session.Sent i)
  free_executes (session.Reading columns found count) i = fails fault.NothingPending (session.Reading columns found count)
      (session.Reading columns found count) (free_behind (session.Reading columns found count) i)
  free_executes (session.Skipping columns count) i = fails fault.NothingPending (session.Skipping columns count) (session.Skipping columns count) (free_behind (session.Skipping columns count) i)
  free_executes (session.Begun batch) i = absurd i
  free_executes (session.Pending p) i = absurd i

  pub executes : (s t : Session) → Held pairs number s t → Follow (executing aloud paths number s k) (executing aloud paths number t j)
  executes s t (inl (e, i)) = subst (λ x. Follow (executing aloud paths number s k) (executing aloud paths number x j)) (sym e) (free_executes s i)
  executes s t (inr (p, q, e, d, h)) =
      subst (λ x. Follow (executing aloud paths number x k) (executing aloud paths number t j)) (sym e)
      (subst (λ x. Follow (executing aloud paths number (session.Pending p) k) (executing aloud paths number x j)) (sym d) (pair_executes p q h))

  -- ---- a batch is described

  module _ (pair : Pair) (there : Contains pairs pair) (own : pair.session ≡ number) (differ : BatchesDiffer pair.batch pair.other) (ready again : Pending → Talk)
      (ready_goes : (p q : Pending) → ArePending pairs number p q → Follow (ready p) (again q)) where
    abbrev batch : Batch
    batch = pair.batch

    abbrev other : Batch
    other = pair.other

    abbrev pending : Batch → Description → List (Option Enc) → Pending
    pending batch d encs = record { batch = batch; version = d.version; keys = d.keys; encs = encs }

    readied_goes : (d : Description) (encs : List (Option Enc)) (o : Option (List ℕ)) → first_open batch.forced batch.params encs ≡ o
        → let x = readied batch d encs o in
        let y = readied other d encs o in
        Follow (described_on aloud ready k (Said (described_outcome x.answer) x.after)) (described_on aloud again j (Said (described_outcome y.answer) y.after))
    readied_goes d encs (Some name) e = fails (fault.NotEncrypted name) session.Idle session.Idle (free_behind session.Idle tt)
    readied_goes d encs None e = saying_goes keys Pairs aloud None (ready (pending batch d encs))
        (again (pending other d encs))
        (ready_goes (pending batch d encs) (pending other d encs) (record { pair = pair; there = there; session = own; batch = refl; is = refl; differ = differ; closed = e }))

    abbrev HeardAlike : (taken : ℕ) (entropy : List ℕ) → Listened → Listened → Type 0
    HeardAlike taken entropy x y = AreDrivenAlike Pairs (driven_on (λ heard n left. drive keys (described_on aloud ready k heard) n entropy left) entropy x)
        (driven_on (λ heard n left. drive keys (described_on aloud again j heard) n entropy left) entropy y)

    module _ (lost : Session → Listing → Option outcomes.Outcome) (unsaid : lost (session.Begun batch) nothing_shown ≡ None) (unsaid_too : lost (session.Begun other) nothing_shown ≡ None) where
      abbrev heard_at : Batch → ℕ → List Reply → Option (Turn DescribeAnswer) → Listened
      heard_at b taken replies o = heard_one (λ after more. listen lost replies after more (suc taken)) None taken replies (heard_description o)

      described_goes : (taken : ℕ) (entropy : List ℕ) → AreBytes entropy → (replies : List Reply) (d : Description) (o : Option (List (Option Enc))) → encs_of batch.params d.params ≡ o
          → HeardAlike taken entropy (heard_at batch taken replies (described_as batch d o)) (heard_at other taken replies (described_as other d o))
      described_goes taken entropy b replies d None e = missed_goes keys Pairs None entropy taken
      described_goes taken entropy b replies d (Some encs) e =
          let same : first_open other.forced other.params encs ≡ first_open batch.forced batch.params encs =
          ap (λ forced. first_open forced other.params encs) differ.forced ∙ open_same batch.forced batch.params other.params differ.params encs in
          subst (λ o. HeardAlike taken entropy (heard_at batch taken replies (described_as batch d (Some encs))) (heard_at other taken replies (Some (readied other d encs o)))) (sym same)
          (readied_goes d encs (first_open batch.forced batch.params encs) refl (suc taken) entropy replies b)

      missed : (taken : ℕ) (entropy : List ℕ) → HeardAlike taken entropy (Lost (lost (session.Begun batch) nothing_shown) taken) (Lost (lost (session.Begun other) nothing_shown) taken)
      missed taken entropy = rw (unsaid, unsaid_too) (missed_goes keys Pairs None entropy taken)

      listened_goes : (taken : ℕ) (entropy : List ℕ) (replies : List Reply) → AreBytes entropy
          → HeardAlike taken entropy (listen lost replies (session.Begun batch) nothing_shown taken) (listen lost replies (session.Begun other) nothing_shown taken)
      listened_goes taken entropy [] b = missed taken entropy
      listened_goes taken entropy (reply.Described d ∷ replies) b = rw (unsaid, unsaid_too)
          (subst (λ o. HeardAlike taken entropy (heard_at batch taken replies (described_as batch d (encs_of batch.params d.params))) (heard_at other taken replies (described_as other d o)))
          (sym (encs_same batch.forced batch.params other.params differ.params d.params)) (described_goes taken entropy b replies d (encs_of batch.params d.params) refl))
      listened_goes taken entropy (reply.Refused f ∷ replies) b =
          saying_goes keys Pairs aloud (Some (outcome.Refused f)) (k (outcome.Refused f) None session.Idle)
          (j (outcome.Refused f) None session.Idle) (go_free (outcome.Refused f) None session.Idle tt) (suc taken) entropy replies b
      listened_goes taken entropy (reply.Columns header ∷ replies) b = missed taken entropy
      listened_goes taken entropy (reply.Row atoms ∷ replies) b = missed taken entropy
      listened_goes taken entropy (reply.Ended done ∷ replies) b = missed taken entropy

    description_goes : Follow (hearing aloud (session.Begun batch) nothing_shown (described_on aloud ready k)) (hearing aloud (session.Begun other) nothing_shown (described_on aloud again j))
    description_goes =
        hearing_goes keys Pairs aloud (session.Begun batch) (session.Begun other) nothing_shown (described_on aloud ready k) (described_on aloud again j) refl refl listened_goes

    abbrev begins_so : Batch → (Pending → Talk) → Onward → Option DriverFault → Talk
    begins_so batch ready k o = let t = begun number (unless o batch) in asked aloud (λ after. hearing aloud after nothing_shown (described_on aloud ready k)) k t.answer t.after

    begun_goes : (o : Option DriverFault) → Follow (begins_so batch ready k o) (begins_so other again j o)
    begun_goes (Some f) = fails f session.Idle session.Idle (free_behind session.Idle tt)
    begun_goes None =
        let declares : List Param → Request = λ ps. request.Describe number batch.text (map (λ (p : Param). p.declaration) ps) in
        let same : request.Describe number other.text (map (λ (p : Param). p.declaration) other.params) ≡ declares batch.params =
        ap (λ text. request.Describe number text (map (λ (p : Param). p.declaration) other.params)) differ.text
        ∙ ap (λ ds. request.Describe number batch.text ds) (declarations_same batch other differ) in
        asks keys Pairs (declares batch.params) (request.Describe number other.text (map (λ (p : Param). p.declaration) other.params))
        (hearing aloud (session.Begun batch) nothing_shown (described_on aloud ready k)) (hearing aloud (session.Begun other) nothing_shown (described_on aloud again j))
        (asked_so (declares batch.params) (request.Describe number other.text (map (λ (p : Param). p.declaration) other.params)) (inl (tt, same))) description_goes

    pub free_begins : (s : Session) → IsFree s → Follow (describing aloud number batch s ready k) (describing aloud number other s again j)
    free_begins session.Idle i =
        subst (λ o. Follow (begins_so batch ready k (why_unfit batch)) (begins_so other again j o)) (sym (unfit_same batch other differ)) (begun_goes (why_unfit batch))
    free_begins session.Sent i = fails fault.StillPending session.Sent session.Sent (free_behind session.Sent i)
    free_begins (session.Reading columns found count) i = fails fault.StillPending (session.Reading columns found count)
        (session.Reading columns found count) (free_behind (session.Reading columns found count) i)
    free_begins (session.Skipping columns count) i = fails fault.StillPending (session.Skipping columns count) (session.Skipping columns count) (free_behind (session.Skipping columns count) i)
    free_begins (session.Begun b) i = absurd i
    free_begins (session.Pending p) i = absurd i

    pub begins : ((s t : Session) → Held pairs number s t → Behind s t) → (s t : Session) → Held pairs number s t
        → Follow (describing aloud number batch s ready k) (describing aloud number other t again j)
    begins held s t (inl (e, i)) = subst (λ x. Follow (describing aloud number batch s ready k) (describing aloud number other x again j)) (sym e) (free_begins s i)
    begins held s t (inr (p, q, e, d, h)) =
        subst (λ x. Follow (describing aloud number batch x ready k) (describing aloud number other t again j)) (sym e)
        (subst (λ x. Follow (describing aloud number batch (session.Pending p) ready k) (describing aloud number other x again j)) (sym d)
        (fails fault.StillPending (session.Pending p) (session.Pending q) (held (session.Pending p) (session.Pending q) (inr (p, q, refl, refl, h)))))
