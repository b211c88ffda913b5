-- One way after another, with what all that a run touches has of them.
use Rattle.std.proofs.Common.{◌≡◌, ℕ, ◌+◌, List, [], ◌∷◌, ◌++◌, Option, Some, None, Result, Ok, Err, length, refl, sym, ◌∙◌, ap, subst, length-append, inl, arith}
use Rattle.std.specs.Prelude.{flat_map, IfSome}
use Rattle.std.proofs.lemmas.Grind.{flat_map-append}
use Rattle.ae_base.specs.declared.frames.FrameVersion.{FrameVersion}
use Rattle.ae_edge.specs.Devices.{Adds, AddsPrefix, Calls, Removes, Stays, WhereExposed}
use Rattle.ae_edge.specs.Vaults.{KeyMap}
use Rattle.ae_edge.proofs.Interface.{told_then, told_same, adds_none, adds_then, calls_map, calls_none, calls_then, removes_none, removes_then, front_of, front_same}
use Rattle.server_core.specs.Beside.{Beside}
use Rattle.conversation.specs.Paths.{Event, Asked, Took, Strayed, Drew, Opened, Printed, stays, replies_to, taken_in, drawn_in, OpensAll}
use Rattle.conversation.specs.Talk.{Talk}
use Rattle.conversation.proofs.Interface.{follows_then, opens_then}
use Rattle.outcome_text.specs.Counting.{count, counted}
use Rattle.script_run.specs.Shares.{
  Anything,
  ClientSide,
  Counts,
  Wire,
  Outside,
  AreServed,
  Queue,
  Queues,
  queue_of,
  with_answer,
  Stream,
  Standing,
  Streams,
  standing_of,
  Comes,
  ClientPut,
  WirePut,
  HasPut,
  WireRead,
  HasRead,
  all_stay,
  text_of,
  frames_of,
  exchanges_of,
}
use Rattle.script_run.specs.Ways.{Proceeds, ProceedsBy, HaltsAt, Lacks, Breaks, StopsBy, Advances, IsSilent, unwritten}
use Rattle.script_run.specs.declared.stops.Stop.{Stop}
use Rattle.script_run.specs.declared.stops.Stop.TheVariants as stop
use Rattle.outcome_text.specs.declared.tallies.Tally.{Tally}
use Rattle.script_run.proofs.Reading.{reads_still}

queues_then : (version : FrameVersion) (xs ys : List Event) (a b c : Queue) → Queues version xs a b → Queues version ys b c → Queues version (xs ++ ys) a c
queues_then version [] ys a b c p q = subst (λ w. Queues version ys w c) p q
queues_then version (Asked request replies ∷ xs) ys a b c p q = queues_then version xs ys (with_answer version a replies) b c p q
queues_then version (Took reply ∷ xs) ys a b c p q = (p.0, p.1, p.2, queues_then version xs ys (record { waiting = p.1; behind = a.behind }) b c p.3 q)
queues_then version (Strayed next ∷ xs) ys a b c p q = (p.0, queues_then version xs ys a b c p.1 q)
queues_then version (Drew bytes ∷ xs) ys a b c p q = queues_then version xs ys a b c p q
queues_then version (Opened meta key ∷ xs) ys a b c p q = queues_then version xs ys a b c p q
queues_then version (Printed comes ∷ xs) ys a b c p q = queues_then version xs ys a b c p q

streams_then : (version : FrameVersion) (xs ys : List Event) (a b c : Standing) → Streams version xs a b → Streams version ys b c → Streams version (xs ++ ys) a c
streams_then version [] ys a b c p q = subst (λ w. Streams version ys w c) p q
streams_then version (Asked request replies ∷ xs) ys a b c p q = streams_then version xs ys a b c p q
streams_then version (Took reply ∷ xs) ys a b c p q = (p.0, p.1, streams_then version xs ys p.0 b c p.2 q)
streams_then version (Strayed next ∷ xs) ys a b c p q = (p.0, streams_then version xs ys a b c p.1 q)
streams_then version (Drew bytes ∷ xs) ys a b c p q = streams_then version xs ys a b c p q
streams_then version (Opened meta key ∷ xs) ys a b c p q = streams_then version xs ys a b c p q
streams_then version (Printed comes ∷ xs) ys a b c p q = streams_then version xs ys a b c p q

-- where no call failed before, or none after
pub after_none : (C : ℕ → ℕ → Type 0) (l m n : ℕ) → Stays l m → C m n → C l n
after_none C l m n e h = subst (λ k. C k n) e h

pub before_none : (C : ℕ → ℕ → Type 0) (l m n : ℕ) → C l m → Stays m n → C l n
before_none C l m n h e = subst (C l) (sym e) h

module _ (C D E : ℕ → ℕ → Type 0) (both : (l m n : ℕ) → C l m → D m n → E l n) where
  read_both : (r s t : Stream) → Calls Anything C r.source s.source → Calls Anything D s.source t.source → Calls Anything E r.source t.source
  read_both r s t p q = record {
    content = tt;
    count = omega (arith, p.count, q.count);
    counts = both r.source.faults s.source.faults t.source.faults p.counts q.counts;
    same = q.same ∙ p.same;
  }

  comes_then : (version : FrameVersion) (xs ys : List Event) (r s t : Option Stream) (a b c : Queue) → Comes C version xs r s a b → Comes D version ys s t b c → Comes E version (xs ++ ys) r t a c
  comes_then version xs ys None None None a b c p q = queues_then version xs ys a b c p q
  comes_then version xs ys (Some r) (Some s) (Some t) a b c p q = (
    flat_map-append replies_to xs ys ∙ ap (λ w. w ++ flat_map replies_to ys) p.0 ∙ q.0,
    streams_then version xs ys (standing_of r) (standing_of s) (standing_of t) p.1 q.1,
    read_both r s t p.2 q.2,
  )
  comes_then version xs ys None None (Some t) a b c p q = absurd q
  comes_then version xs ys None (Some s) t a b c p q = absurd p
  comes_then version xs ys (Some r) None t a b c p q = absurd p
  comes_then version xs ys (Some r) (Some s) None a b c p q = absurd q

pub serves_then : (xs ys : List Event) (a b c : Beside) → AreServed xs a b → AreServed ys b c → AreServed (xs ++ ys) a c
serves_then [] ys a b c p q = subst (λ w. AreServed ys w c) p q
serves_then (Asked request replies ∷ xs) ys a b c p q = (p.0, p.1, serves_then xs ys p.0 b c p.2 q)
serves_then (Took reply ∷ xs) ys a b c p q = serves_then xs ys a b c p q
serves_then (Strayed next ∷ xs) ys a b c p q = serves_then xs ys a b c p q
serves_then (Drew bytes ∷ xs) ys a b c p q = serves_then xs ys a b c p q
serves_then (Opened meta key ∷ xs) ys a b c p q = serves_then xs ys a b c p q
serves_then (Printed comes ∷ xs) ys a b c p q = serves_then xs ys a b c p q

opened_then : (xs ys : List Event) (a b : Option KeyMap) → b ≡ a → IfSome a (OpensAll xs) → IfSome b (OpensAll ys) → IfSome a (OpensAll (xs ++ ys))
opened_then xs ys None b e p q = tt
opened_then xs ys (Some keys) b e p q = let r : IfSome (Some keys) (OpensAll ys) = subst (λ w. IfSome w (OpensAll ys)) e q in opens_then keys xs ys p r

-- what is put of each event in turn is put of all
pub puts_then : {A : Type 0} (f : Event → List A) (xs ys : List Event) (a b c : Option (List A)) → Adds (flat_map f xs) a b → Adds (flat_map f ys) b c → Adds (flat_map f (xs ++ ys)) a c
puts_then f xs ys a b c p q = subst (λ w. Adds w a c) (sym (flat_map-append f xs ys)) (adds_then (flat_map f xs) (flat_map f ys) a b c p q)

drawn_then : (xs ys : List Event) (a b c : Option (List ℕ)) → Removes (flat_map drawn_in xs) a b → Removes (flat_map drawn_in ys) b c → Removes (flat_map drawn_in (xs ++ ys)) a c
drawn_then xs ys a b c p q =
    subst (λ w. Removes w a c) (sym (flat_map-append drawn_in xs ys)) (removes_then (flat_map drawn_in xs) (flat_map drawn_in ys) a b c p q)

client_then : (C : Counts) (xs ys : List Event) (a b c : ClientSide) → ClientPut Adds all_stay xs a b → ClientPut Adds C ys b c → ClientPut Adds C (xs ++ ys) a c
client_then C xs ys a b c p q = record {
  out =
      calls_then (Adds (flat_map text_of xs)) (Adds (flat_map text_of ys)) (Adds (flat_map text_of (xs ++ ys))) C.out a.out b.out c.out
      (puts_then text_of xs ys a.out.content b.out.content c.out.content) p.out q.out;
  entropy =
      calls_then (Removes (flat_map drawn_in xs)) (Removes (flat_map drawn_in ys)) (Removes (flat_map drawn_in (xs ++ ys))) C.entropy a.entropy b.entropy c.entropy
      (drawn_then xs ys a.entropy.content b.entropy.content c.entropy.content) p.entropy q.entropy;
  vault = calls_then Stays Stays Stays C.vault a.vault b.vault c.vault (λ e f. f ∙ e) p.vault q.vault;
  opened = opened_then xs ys a.vault.content b.vault.content p.vault.content p.opened q.opened;
}

pub wire_then : (C : ℕ → ℕ → Type 0) (xs ys : List Event) (a b c : Wire) → WirePut Adds Stays xs a b → WirePut Adds C ys b c → WirePut Adds C (xs ++ ys) a c
wire_then C xs ys a b c p q = record {
  tap =
      calls_then (Adds (flat_map (frames_of a.version) xs)) (Adds (flat_map (frames_of a.version) ys)) (Adds (flat_map (frames_of a.version) (xs ++ ys))) C a.tap b.tap c.tap
      (puts_then (frames_of a.version) xs ys a.tap.content b.tap.content c.tap.content) p.tap
      (subst (λ v. Calls (Adds (flat_map (frames_of v) ys)) C b.tap c.tap) p.version q.tap);
  closed = q.closed ∙ p.closed;
  log = puts_then exchanges_of xs ys a.log b.log c.log p.log q.log;
  state = told_then (AreServed xs) (AreServed ys) (AreServed (xs ++ ys)) (serves_then xs ys) a.state b.state c.state p.state q.state;
  names = q.names ∙ p.names;
  version = q.version ∙ p.version;
}

put_then : (C : Counts) (xs ys : List Event) (a b c : Outside) → HasPut Adds all_stay xs a b → HasPut Adds C ys b c → HasPut Adds C (xs ++ ys) a c
put_then C xs ys a b c p q = record {
  client = client_then C xs ys a.client b.client c.client p.client q.client;
  wire = wire_then C.tap xs ys a.wire b.wire c.wire p.wire q.wire;
}

taken_then : (xs ys : List Event) → length (flat_map taken_in (xs ++ ys)) ≡ length (flat_map taken_in xs) + length (flat_map taken_in ys)
taken_then xs ys = ap length (flat_map-append taken_in xs ys) ∙ length-append (flat_map taken_in xs) (flat_map taken_in ys)

pub wire_read_by : (C D E : ℕ → ℕ → Type 0) → ((l m n : ℕ) → C l m → D m n → E l n) → (xs ys : List Event) (a b c : Wire)
    → b.version ≡ a.version → WireRead C xs a b → WireRead D ys b c → WireRead E (xs ++ ys) a c
wire_read_by C D E both xs ys a b c e p q = record {
  comes =
      comes_then C D E both a.version xs ys a.stream b.stream c.stream (queue_of a) (queue_of b) (queue_of c) p.comes
      (subst (λ v. Comes D v ys b.stream c.stream (queue_of b) (queue_of c)) e q.comes);
  taken =
      let f : c.taken ≡ (a.taken + length (flat_map taken_in xs)) + length (flat_map taken_in ys) = q.taken ∙ ap (λ n. n + length (flat_map taken_in ys)) p.taken in
      let g = taken_then xs ys in
      omega arith;
}

-- calls that didn't fail, and then others; or the other way round
pub wire_read_then : (C : ℕ → ℕ → Type 0) (xs ys : List Event) (a b c : Wire) → b.version ≡ a.version → WireRead Stays xs a b → WireRead C ys b c → WireRead C (xs ++ ys) a c
wire_read_then C = wire_read_by Stays C C (after_none C)

pub wire_read_before : (C : ℕ → ℕ → Type 0) (xs ys : List Event) (a b c : Wire) → b.version ≡ a.version → WireRead C xs a b → WireRead Stays ys b c → WireRead C (xs ++ ys) a c
wire_read_before C = wire_read_by C Stays C (before_none C)

pub counted_then : (xs ys : List Event) (t : Tally) → counted (xs ++ ys) t ≡ counted ys (counted xs t)
counted_then [] ys t = refl
counted_then (x ∷ xs) ys t = counted_then xs ys (count x t)

read_then : (C : Counts) (xs ys : List Event) (a b c : Outside) → b.wire.version ≡ a.wire.version → HasRead all_stay xs a b → HasRead C ys b c → HasRead C (xs ++ ys) a c
read_then C xs ys a b c e p q = record {
  tally = q.tally ∙ ap (counted ys) p.tally ∙ sym (counted_then xs ys a.client.tally);
  wire = wire_read_then C.replies xs ys a.wire b.wire c.wire e p.wire q.wire;
}

-- ---- nothing happens

pub no_keys : (keys : Option KeyMap) → IfSome keys (OpensAll [])
no_keys None = tt
no_keys (Some keys) = tt

pub same_state : (a : Option Beside) → WhereExposed (AreServed []) a a
same_state = told_same (AreServed []) (λ x. refl)

-- events that leave text, random bytes and keys
pub client_beside : (events : List Event) → flat_map text_of events ≡ [] → flat_map drawn_in events ≡ [] → ((keys : Option KeyMap) → IfSome keys (OpensAll events)) → (a : ClientSide) (tally : Tally)
    → ClientPut Adds all_stay events a (record a { tally = tally })
client_beside events text drawn opens a tally = record {
  out = calls_none (Adds (flat_map text_of events)) a.out (subst (λ w. Adds w a.out.content a.out.content) (sym text) (adds_none a.out.content));
  entropy = calls_none (Removes (flat_map drawn_in events)) a.entropy (subst (λ w. Removes w a.entropy.content a.entropy.content) (sym drawn) (removes_none a.entropy.content));
  vault = calls_none Stays a.vault refl;
  opened = opens a.vault.content;
}

pub client_still : (a : ClientSide) → ClientPut Adds all_stay [] a a
client_still a = client_beside [] refl refl no_keys a a.tally

-- events that leave the other side
pub wire_beside : (events : List Event) → ((version : FrameVersion) → flat_map (frames_of version) events ≡ []) → flat_map exchanges_of events ≡ [] → ((x : Beside) → AreServed events x x) → (a : Wire)
    → WirePut Adds Stays events a a
wire_beside events frames exchanges serves a = record {
  tap = calls_none (Adds (flat_map (frames_of a.version) events)) a.tap (subst (λ w. Adds w a.tap.content a.tap.content) (sym (frames a.version)) (adds_none a.tap.content));
  closed = refl;
  log = subst (λ w. Adds w a.log a.log) (sym exchanges) (adds_none a.log);
  state = told_same (AreServed events) serves a.state;
  names = refl;
  version = refl;
}

pub wire_still : (a : Wire) → WirePut Adds Stays [] a a
wire_still a = wire_beside [] (λ version. refl) refl (λ x. refl) a

pub nothing_put : (a : Outside) → HasPut Adds all_stay [] a a
nothing_put a = record { client = client_still a.client; wire = wire_still a.wire }

-- events that touch no reply
pub comes_still : (version : FrameVersion) (events : List Event) → flat_map replies_to events ≡ [] → ((x : Queue) → Queues version events x x) → ((x : Standing) → Streams version events x x)
    → (s : Option Stream) (q : Queue) → Comes Stays version events s s q q
comes_still version events n w b None q = w q
comes_still version events n w b (Some s) q = (n, b (standing_of s), calls_none Anything s.source tt)

pub wire_unread : (a : Wire) → WireRead Stays [] a a
wire_unread a = record { comes = comes_still a.version [] refl (λ x. refl) (λ x. refl) a.stream (queue_of a); taken = omega arith }

pub nothing_read : (a : Outside) → HasRead all_stay [] a a
nothing_read a = record { tally = refl; wire = wire_unread a.wire }

pub stay : (t : Talk) (a : Outside) → Proceeds t t a a
stay t a = record { events = []; follows = stays t; put = nothing_put a; read = nothing_read a; limit = λ h. h }

-- ---- what was put whole is a front of it

pub client_front : (C : Counts) (xs : List Event) (a b : ClientSide) → ClientPut Adds C xs a b → ClientPut AddsPrefix C xs a b
client_front C xs a b p = record {
  out =
      calls_map (Adds (flat_map text_of xs)) (AddsPrefix (flat_map text_of xs)) C.out a.out b.out
      (λ h. front_of (flat_map text_of xs) (flat_map text_of xs) a.out.content b.out.content h (front_same (flat_map text_of xs))) p.out;
  entropy = p.entropy;
  vault = p.vault;
  opened = p.opened;
}

pub wire_front : (C : ℕ → ℕ → Type 0) (xs : List Event) (a b : Wire) → WirePut Adds C xs a b → WirePut AddsPrefix C xs a b
wire_front C xs a b p = record {
  tap =
      let frames = flat_map (frames_of a.version) xs in
      calls_map (Adds frames) (AddsPrefix frames) C a.tap b.tap (λ h. front_of frames frames a.tap.content b.tap.content h (front_same frames)) p.tap;
  closed = p.closed;
  log = p.log;
  state = p.state;
  names = p.names;
  version = p.version;
}

-- ---- one way after another

pub goes_by : (C : Counts) (t u v : Talk) (a b c : Outside) → Proceeds t u a b → ProceedsBy C u v b c → ProceedsBy C t v a c
goes_by C t u v a b c p q = record {
  events = p.events ++ q.events;
  follows = follows_then t u v p.events q.events p.follows q.follows;
  put = put_then C p.events q.events a b c p.put q.put;
  read = read_then C p.events q.events a b c p.put.wire.version p.read q.read;
  limit = λ h. q.limit (p.limit h);
}

pub goes_then : (t u v : Talk) (a b c : Outside) → Proceeds t u a b → Proceeds u v b c → Proceeds t v a c
goes_then = goes_by all_stay

pub halts_then : (C : Counts) (P : Talk → Outside → Type 0) (t u : Talk) (a b c : Outside) → Proceeds t u a b → HaltsAt C P u b c → HaltsAt C P t a c
halts_then C P t u a b c p q = record { rest = q.rest; goes = goes_by C t u q.rest a b c p q.goes; place = q.place }

pub breaks_then : (C : Counts) (t u : Talk) (a b c : Outside) → Proceeds t u a b → Breaks C u b c → Breaks C t a c
breaks_then C t u a b c p q = record {
  between = q.between;
  rest = q.rest;
  mid = q.mid;
  last = q.last;
  goes = goes_then t u q.between a b q.mid p q.goes;
  one = q.one;
  follows = q.follows;
  put = q.put;
  reads = q.reads;
}

-- where the replies come as bytes, none came with these
pub silent_by : (stream : Option Stream) (events : List Event) → flat_map replies_to events ≡ [] → IsSilent stream events
silent_by (Some s) events e = e
silent_by None events e = tt

-- it breaks off where everything stands whole
pub breaks_between : (t u : Talk) (a b : Outside) → Proceeds t u a b → Breaks all_stay t a b
breaks_between t u a b p = record {
  between = u;
  rest = u;
  mid = b;
  last = [];
  goes = p;
  one = omega arith;
  follows = inl (stays u, silent_by b.wire.stream [] refl);
  put = record { client = client_front all_stay [] b.client b.client (client_still b.client); wire = wire_front Stays [] b.wire b.wire (wire_still b.wire) };
  reads = reads_still b.wire.stream;
}

lacks_then : (C : Counts) (t u : Talk) (a b c : Outside) → Proceeds t u a b → Lacks C u b c → Lacks C t a c
lacks_then C t u a b c p l = record { between = l.between; mid = l.mid; goes = goes_then t u l.between a b l.mid p l.goes; awaits = l.awaits; put = l.put; read = l.read }

pub fails_then : (s : Stop) (t u : Talk) (a b c : Outside) → Proceeds t u a b → StopsBy s u b c → StopsBy s t a c
unfolding lacks_then
fails_then (stop.BadReply place) t u a b c p f = halts_then _ _ t u a b c p f
fails_then stop.ReadFault t u a b c p f = (lacks_then _ t u a b c p f.0, f.1, λ h. f.2 (p.limit h))
fails_then stop.TooLong t u a b c p f = (lacks_then _ t u a b c p f.0, f.1)
fails_then stop.EntropyFault t u a b c p f = halts_then _ _ t u a b c p f
fails_then stop.VaultFault t u a b c p f = halts_then _ _ t u a b c p f
fails_then stop.WriteFault t u a b c p f = (f.0, breaks_then (unwritten f.0) t u a b c p f.1)
fails_then stop.OutOfMemory t u a b c p f = breaks_then _ t u a b c p f

pub leads_then : {A : Type 0} (result : Result A Stop) (t u : Talk) (onward : A → Talk) (a b c : Outside) → Proceeds t u a b → Advances result u onward b c → Advances result t onward a c
leads_then (Ok x) t u onward a b c p l = goes_then t u (onward x) a b c p l
leads_then (Err s) t u onward a b c p l = fails_then s t u a b c p l
