-- Keys of one number have one name: one list, which only grows, has the number and the name of each key that was ever given.
use Rattle.std.proofs.Common.{
  ◌≡◌,
  ◌<◌,
  ℕ,
  zero,
  suc,
  ◌+◌,
  ◌-◌,
  List,
  [],
  ◌∷◌,
  ◌++◌,
  length,
  map,
  get_or,
  Contains,
  Option,
  Some,
  None,
  Bool,
  true,
  false,
  cond,
  inl,
  inr,
  refl,
  ap,
  sym,
  subst,
  ◌∙◌,
  arith,
  length-append,
  append-nil,
  append_assoc,
}
use Rattle.std.specs.Prelude.{◌==◌, IfSome, replicate}
use Rattle.std.specs.List.{All, find}
use Rattle.std.proofs.lemmas.Bool.{eqb-true}
use Rattle.std.proofs.lemmas.List.{length-map, map-append, get_or-map, get_or_default}
use Rattle.std.proofs.lemmas.List.Elements.{All-cons, All-head, All-nil, All-tail, All-weaker, Contains-append_cases, Contains-append_left, Contains-append_right}
use Rattle.ae_base.specs.OneOrTwo.{only}
use Rattle.catalog.specs.Catalogs.{Catalog, key_of}
use Rattle.catalog.specs.Laws.{EachFollowsItself}
use Rattle.catalog.specs.WellFormed.{Follows, label_of}
use Rattle.catalog.specs.declared.keys.ColumnKey.{ColumnKey}
use Rattle.transactions.specs.Counted.{Counted, nothing_counted}
use Rattle.transactions.specs.Stores.{Ask, Transaction, seen_by, transact, transaction_at}
use Rattle.transactions.proofs.Interface.{AreBegun, IsOwnCatalog, all_at, all_set, none_begun, slot_of}
use Rattle.wire_messages.specs.declared.requests.Request.{Request}
use Rattle.server_core.specs.Serve.{State, catalog_of, empty_state, serve, serve_all}
use Rattle.catalog_laws.specs.Laws.{NumbersHaveOneName}
use Rattle.catalog_laws.proofs.Following.{call_leads, request_leads, served_by}
use Rattle.catalog_laws.proofs.Numbers.{behind_more}

abbrev pub Label : Type 0
Label = ℕ × List ℕ

abbrev pub labelled : ℕ → List ℕ → Label
labelled id name = (id, name)

-- each key of the catalog is among these
abbrev IsAmong : List Label → ColumnKey → Type 0
IsAmong given key = Contains given (label_of key)

abbrev pub AreAmong : List Label → Catalog → Type 0
AreAmong given catalog = All (IsAmong given) catalog.keys

abbrev AreOwnAmong : List Label → Option Transaction → Type 0
AreOwnAmong given slot = IfSome slot (λ (t : Transaction). AreAmong given t.own.world.catalog)

-- these keys were given, numbered from 1, and no others; each key that is seen is among them
pub record AreGiven (given : List Label) (state : State) : Type 0 where
  pub numbers : (k : ℕ) (default : Label) → k < length given → (get_or given k default).0 ≡ 1 + k
  pub next_id : state.shared.world.catalog.next_id ≡ 1 + length given
  pub shared : AreAmong given state.shared.world.catalog
  pub own : All (AreOwnAmong given) state.sessions

pub record MoreGiven (given : List Label) (state : State) : Type 0 where
  pub more : List Label
  pub are : AreGiven (given ++ more) state

-- ---- a longer list

further : (given more : List Label) (catalog : Catalog) → AreAmong given catalog → AreAmong (given ++ more) catalog
further given more catalog h = All-weaker (IsAmong given) (IsAmong (given ++ more)) (λ key there. Contains-append_left given more (label_of key) there) catalog.keys h

further_own : (given more : List Label) (slot : Option Transaction) → AreOwnAmong given slot → AreOwnAmong (given ++ more) slot
further_own given more None h = tt
further_own given more (Some t) h = further given more t.own.world.catalog h

numbered : (next : ℕ) (xs ys : List Label) → ((k : ℕ) (default : Label) → k < length xs → (get_or xs k default).0 ≡ next + k)
    → ((k : ℕ) (default : Label) → k < length ys → (get_or ys k default).0 ≡ (next + length xs) + k)
    → (k : ℕ) (default : Label) → k < length (xs ++ ys) → (get_or (xs ++ ys) k default).0 ≡ next + k
numbered next [] ys first then k default lt = let t = then k default lt in omega arith
numbered next (x ∷ xs) ys first then zero default lt = first 0 default (omega arith)
numbered next (x ∷ xs) ys first then (suc k) default lt =
    let rest = numbered (next + 1) xs ys (λ i d below. let f = first (suc i) d (omega arith) in omega arith) (λ i d below. let t = then i d below in omega arith) k default (omega arith) in
    omega arith

default_key : ColumnKey
default_key = record { id = 0; name = []; values = only (record { master = []; wrapped = [] }) }

labels_numbered : (keys : List ColumnKey) (next : ℕ) → ((k : ℕ) (default : ColumnKey) → k < length keys → (get_or keys k default).id ≡ next + k)
    → (k : ℕ) (default : Label) → k < length (map label_of keys) → (get_or (map label_of keys) k default).0 ≡ next + k
labels_numbered keys next h k default lt =
    let within : k < length keys = subst (λ n. k < n) (length-map keys label_of) lt in
    ap (λ (l : Label). l.0) (get_or-map label_of keys k default_key default within) ∙ h k default_key within

among_labels : (given : List Label) (keys : List ColumnKey) (label : Label) → All (IsAmong given) keys → Contains (map label_of keys) label → Contains given label
among_labels given keys label h there =
    let within : there.0 < length keys = subst (λ n. there.0 < n) (length-map keys label_of) there.1 in
    subst (Contains given) (sym (get_or-map label_of keys there.0 default_key label within) ∙ there.2) (h there.0 default_key within)

followed_among : (given : List Label) (old new : Catalog) (f : Follows old new) → AreAmong given old → AreAmong (given ++ map label_of f.created) new
followed_among given old new f h =
    let more = map label_of f.created in
    All-weaker (λ (key : ColumnKey). Contains (map label_of (old.keys ++ f.created)) (label_of key)) (IsAmong (given ++ more)) (λ key there. by (label_of key) there) new.keys f.keys
  where
    by : (label : Label) → Contains (map label_of (old.keys ++ f.created)) label → Contains (given ++ map label_of f.created) label
    by label there =
        elim (Contains-append_cases (map label_of old.keys) (map label_of f.created) label (subst (λ labels. Contains labels label) (map-append label_of old.keys f.created) there)) [
          | inl before ↦ Contains-append_left given (map label_of f.created) label (among_labels given old.keys label h before)
          | inr created ↦ Contains-append_right given (map label_of f.created) label created
        ]

-- ---- what a session sees

seen_among : (given : List Label) (shared : Counted) (slot : Option Transaction) → AreAmong given shared.world.catalog → AreOwnAmong given slot → AreAmong given (seen_by shared slot).world.catalog
seen_among given shared None h k = h
seen_among given shared (Some t) h k = k

pub sees : (given : List Label) (state : State) → AreGiven given state → (session : ℕ) → AreAmong given (catalog_of state session)
sees given state h session =
    seen_among given state.shared (transaction_at state session) h.shared (all_at (AreOwnAmong given) state.sessions (session - 1) None h.own tt)

-- ---- a call, and requests

next_among : (given : List Label) (seen : Catalog) (slot : Option Transaction) → AreAmong given seen → IsOwnCatalog seen slot → AreOwnAmong given slot
next_among given seen None h next = tt
next_among given seen (Some t) h next = subst (All (IsAmong given)) (sym next.keys) h

module _ (itself : EachFollowsItself) where
  call_given : (given : List Label) (state : State) (session : ℕ) (ask : Ask) → AreBegun state → AreGiven given state → MoreGiven given (transact state session ask).after
  call_given given state session ask begun h =
      let f = (call_leads itself state session ask begun).follows in
      let more = map label_of f.created in
      let after = (transact state session ask).after in
      let s = slot_of state session ask in
      let old = state.shared.world.catalog in
      let seen = further given more (catalog_of state session) (sees given state h session) in
      let long : length (given ++ more) ≡ length given + length f.created = length-append given more ∙ ap (λ n. length given + n) (length-map f.created label_of) in
      let next = h.next_id in
      let new = f.next_id in
      record {
        more = more;
        are = record {
          numbers = numbered 1 given more h.numbers (labels_numbered f.created (1 + length given) (λ k default lt. f.numbers k default lt ∙ ap (λ n. n + k) next));
          next_id = omega arith;
          shared = followed_among given old after.shared.world.catalog f h.shared;
          own = subst (All (AreOwnAmong (given ++ more))) (sym s.sessions)
              (all_set (AreOwnAmong (given ++ more)) state.sessions (session - 1) s.slot
              (All-weaker (AreOwnAmong given) (AreOwnAmong (given ++ more)) (further_own given more) state.sessions h.own)
              (next_among (given ++ more) (catalog_of state session) s.slot seen s.own));
        };
      }

  pub none_more : (given : List Label) (state : State) → AreGiven given state → MoreGiven given state
  none_more given state h = record { more = []; are = subst (λ gs. AreGiven gs state) (sym (append-nil given)) h }

  pub request_given : (given : List Label) (state : State) (request : Request) → AreBegun state → AreGiven given state → MoreGiven given (serve state request).after
  request_given given state request begun h = served_by (MoreGiven given) state (none_more given state h) (λ session ask. call_given given state session ask begun h) request

  requests_given : (given : List Label) (state : State) (requests : List Request) → AreBegun state → AreGiven given state → MoreGiven given (serve_all state requests).1
  requests_given given state [] begun h = none_more given state h
  requests_given given state (request ∷ requests) begun h =
      let after = (serve state request).after in
      let one = request_given given state request begun h in
      let rest = requests_given (given ++ one.more) after requests (request_leads itself state request begun).begun one.are in
      record { more = one.more ++ rest.more; are = subst (λ gs. AreGiven gs (serve_all after requests).1) (append_assoc given one.more rest.more) rest.are }

  requests_begun : (state : State) (requests : List Request) → AreBegun state → AreBegun (serve_all state requests).1
  requests_begun state [] begun = begun
  requests_begun state (request ∷ requests) begun = requests_begun (serve state request).after requests (request_leads itself state request begun).begun

-- ---- from the state in which nothing is defined

pub empty_given : AreGiven [] empty_state
empty_given = record { numbers = λ k default lt. absurd (omega arith); next_id = refl; shared = All-nil (IsAmong []); own = none 64 }
  where
    none : (n : ℕ) → All (AreOwnAmong []) (replicate n None)
    none zero = All-nil (AreOwnAmong [])
    none (suc n) = All-cons (AreOwnAmong []) None (replicate n None) tt (none n)

found_among : (given : List Label) (id : ℕ) (keys : List ColumnKey) (key : ColumnKey) → All (IsAmong given) keys → find (λ other. other.id == id) keys ≡ Some key
    → Contains given (labelled id key.name)
found_among given id [] key h e = absurd cc
found_among given id (x ∷ xs) key h e = by (x.id == id) refl e (found_among given id xs key (All-tail (IsAmong given) x xs h))
  where
    by : (b : Bool) → (x.id == id) ≡ b → cond b (Some x) (find (λ other. other.id == id) xs) ≡ Some key
        → (find (λ other. other.id == id) xs ≡ Some key → Contains given (labelled id key.name)) → Contains given (labelled id key.name)
    by true t f rest =
        let same : x ≡ key = cc in
        subst (λ (k : ColumnKey). Contains given (labelled id k.name)) same
        (subst (λ n. Contains given (labelled n x.name)) (eqb-true x.id id t) (All-head (IsAmong given) x xs h))
    by false t f rest = rest f

-- a number is given once
pub same_name : (given : List Label) → ((k : ℕ) (default : Label) → k < length given → (get_or given k default).0 ≡ 1 + k) → (id : ℕ) (x y : List ℕ)
    → Contains given (labelled id x) → Contains given (labelled id y) → x ≡ y
same_name given numbers id x y h k =
    let p : labelled id x ≡ get_or given h.0 (labelled id x) = sym h.2 in
    let q : get_or given k.0 (labelled id y) ≡ labelled id y = k.2 in
    let i : id ≡ 1 + h.0 = ap (λ (l : Label). l.0) p ∙ numbers h.0 (labelled id x) h.1 in
    let j : id ≡ 1 + k.0 = ap (λ (l : Label). l.0) (sym q) ∙ numbers k.0 (labelled id y) k.1 in
    let place : h.0 ≡ k.0 = omega arith in
    ap (λ (l : Label). l.1) (p ∙ get_or_default given h.0 (labelled id x) (labelled id y) h.1 ∙ ap (λ n. get_or given n (labelled id y)) place ∙ q)

pub one_name : EachFollowsItself → NumbersHaveOneName
one_name itself history more session other id key later e f =
    let s = (serve_all empty_state history).1 in
    let begun = none_begun nothing_counted in
    let a = requests_given itself [] empty_state history begun empty_given in
    let b = requests_given itself a.more s more (requests_begun itself empty_state history begun) a.are in
    let now = (serve_all s more).1 in
    let all = a.more ++ b.more in
    let seen = further a.more b.more (catalog_of s session) (sees a.more s a.are session) in
    let there = subst (λ (x : State). key_of (catalog_of x other) id ≡ Some later) (behind_more empty_state history more) f in
    same_name all b.are.numbers id later.name key.name
    (found_among all id (catalog_of now other).keys later (sees all now b.are other) there)
    (found_among all id (catalog_of s session).keys key seen e)
