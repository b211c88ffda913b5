-- The pairs of cells at like places: each is paired, and they alone matter.
use Rattle.std.proofs.Common.{◌≡◌, inl, inr, List, [], ◌∷◌, ◌++◌, subst, arith}
use Rattle.std.specs.List.{AllZip, Contains}
use Rattle.std.proofs.lemmas.List.Elements.{Contains-append_left, Contains-append_right, Contains-append_cases, Contains-push, Contains-push_cases}
use Rattle.ae_base.specs.Atoms.{Atom}
use Rattle.ae_base.specs.declared.atoms.AtomOf.TheVariants.{Null, Plain, Sealed}
use Rattle.renaming_laws.specs.Renaming.{PairsCells}
use Rattle.scalar.specs.Classes.{Class, Open, Det, Rnd, Pairing, Entry, NullOr, Correspond, RowsCorrespond, class_of}
use Rattle.server_core.specs.Correspond.{
  CellsPaired,
  SentAtomsCorrespond,
  ParamsCorrespond,
  RequestsCorrespond,
  classes_behind,
  ReplyCorresponds,
  RepliesCorrespond,
  ExchangeCorresponds,
  ExchangesCorrespond,
}
use Rattle.wire_messages.specs.Exchanges.{Exchange}
use Rattle.wire_messages.specs.declared.params.SentParam.{SentParam}
use Rattle.wire_messages.specs.declared.replies.Reply.{Reply}
use Rattle.wire_messages.specs.declared.replies.Reply.TheVariants.{Described, Columns, Row, Ended, Refused}
use Rattle.wire_messages.specs.declared.requests.Request.{Request}
use Rattle.wire_messages.specs.declared.requests.Request.TheVariants.{Describe, Execute}
use Rattle.twin_laws.specs.Pairs.{cells_at, pairs_at, pairs_of_params, pairs_of_requests, pairs_of_rows, pairs_of_reply, pairs_of_replies, pairs_of_exchange, pairs_in}

abbrev pub Holds : Pairing → Entry → Type 0
Holds P e = P e.class e.left e.right

-- by P these are paired, and what speaks of P is so of each pairing that has these
pub record Gathers (P : Class → Atom → Atom → Type 0) (X : (Class → Atom → Atom → Type 0) → Type 0) (es : List Entry) : Type 1 where
  pub each : (e : Entry) → Contains es e → Holds P e
  pub into : (Q : Pairing) → ((e : Entry) → Contains es e → Holds P e → Holds Q e) → X Q

nothing_in : (e : Entry) → Contains [] e → ⊥
nothing_in e h = let lt = h.1 in omega (arith, lt)

only_in : (x e : Entry) → Contains (x ∷ []) e → x ≡ e
only_in x e h = elim (Contains-push_cases [] x e h) [ inl n ↦ absurd (nothing_in e n) | inr s ↦ s ]

module _ (P : Pairing) where
  none : (X : Pairing → Type 0) → ((Q : Pairing) → X Q) → Gathers P X []
  none X f = record { each = λ e h. absurd (nothing_in e h); into = λ Q g. f Q }

  both : (X Y : Pairing → Type 0) (xs ys : List Entry) → Gathers P X xs → Gathers P Y ys → Gathers P (λ Q. X Q × Y Q) (xs ++ ys)
  both X Y xs ys g h = record {
    each = λ e i. elim (Contains-append_cases xs ys e i) [ inl j ↦ g.each e j | inr j ↦ h.each e j ];
    into = λ Q f. (g.into Q (λ e i. f e (Contains-append_left xs ys e i)), h.into Q (λ e i. f e (Contains-append_right xs ys e i)));
  }

  mapped : (X Y : Pairing → Type 0) (xs : List Entry) → ((Q : Pairing) → X Q → Y Q) → Gathers P X xs → Gathers P Y xs
  mapped X Y xs f g = record { each = g.each; into = λ Q i. f Q (g.into Q i) }

  one : (c : Class) (a b : Atom) → P c a b → Gathers P (λ Q. Q c a b) (record { class = c; left = a; right = b } ∷ [])
  one c a b h =
      let x : Entry = record { class = c; left = a; right = b } in
      record { each = λ e i. subst (Holds P) (only_in x e i) h; into = λ Q f. f x (Contains-push [] x) h }

module _ (P : Pairing) (cells : PairsCells P) where
  gathers_paired : (c : Class) (a b : Atom) → CellsPaired (P c) a b → Gathers P (λ Q. CellsPaired (Q c) a b) (cells_at c a b)
  gathers_paired c Null b h = none P _ (λ Q. h)
  gathers_paired c (Plain v) b h = none P _ (λ Q. h)
  gathers_paired c (Sealed x) Null h = absurd (cells c (Sealed x) Null h)
  gathers_paired c (Sealed x) (Plain v) h = absurd (cells c (Sealed x) (Plain v) h)
  gathers_paired c (Sealed x) (Sealed y) h = one P c (Sealed x) (Sealed y) h

  gathers_sent : (c : Class) (a b : Atom) → SentAtomsCorrespond P c a b → Gathers P (λ Q. SentAtomsCorrespond Q c a b) (pairs_at c a b)
  gathers_sent Open a b h = none P _ (λ Q. h)
  gathers_sent (Det key ty) a b h = gathers_paired (Det key ty) a b h
  gathers_sent (Rnd key ty) a b h = gathers_paired (Rnd key ty) a b h

  gathers_params : (ps qs : List SentParam) → AllZip (ParamsCorrespond P) ps qs → Gathers P (λ Q. AllZip (ParamsCorrespond Q) ps qs) (pairs_of_params ps qs)
  gathers_params [] [] h = none P _ (λ Q. tt)
  gathers_params (p ∷ ps) (q ∷ qs) h =
      let c = class_of p.ty p.enc in
      mapped P (λ Q. SentAtomsCorrespond Q c p.atom q.atom × AllZip (ParamsCorrespond Q) ps qs) (λ Q. AllZip (ParamsCorrespond Q) (p ∷ ps) (q ∷ qs)) _ (λ Q x. ((h.0.0, x.0), x.1))
      (both P (λ Q. SentAtomsCorrespond Q c p.atom q.atom) (λ Q. AllZip (ParamsCorrespond Q) ps qs) _ _ (gathers_sent c p.atom q.atom h.0.1) (gathers_params ps qs h.1))
  gathers_params ps qs h = absurd h

  gathers_request : (q p : Request) → RequestsCorrespond P q p → Gathers P (λ Q. RequestsCorrespond Q q p) (pairs_of_requests q p)
  gathers_request (Describe session text ds) p h = none P _ (λ Q. h)
  gathers_request (Execute session version text ps) (Describe s t ds) h = absurd h
  gathers_request (Execute session version text ps) (Execute s v t qs) h =
      mapped P (λ Q. AllZip (ParamsCorrespond Q) ps qs) (λ Q. RequestsCorrespond Q (Execute session version text ps) (Execute s v t qs)) _ (λ Q x. (h.0, h.1, h.2, x)) (gathers_params ps qs h.3)

  gathers_null_or : (c : Class) (a b : Atom) → NullOr (P c a b) a b → Gathers P (λ Q. NullOr (Q c a b) a b) (cells_at c a b)
  gathers_null_or c Null b (inl h) = none P _ (λ Q. inl h)
  gathers_null_or c Null b (inr h) = absurd (cells c Null b h)
  gathers_null_or c (Plain v) b (inl h) = none P _ (λ Q. inl h)
  gathers_null_or c (Plain v) b (inr h) = absurd (cells c (Plain v) b h)
  gathers_null_or c (Sealed x) Null (inl h) = none P _ (λ Q. inl h)
  gathers_null_or c (Sealed x) Null (inr h) = absurd (cells c (Sealed x) Null h)
  gathers_null_or c (Sealed x) (Plain v) (inl h) = none P _ (λ Q. inl h)
  gathers_null_or c (Sealed x) (Plain v) (inr h) = absurd (cells c (Sealed x) (Plain v) h)
  gathers_null_or c (Sealed x) (Sealed y) (inl h) = let z = h.1 in absurd cc
  gathers_null_or c (Sealed x) (Sealed y) (inr h) = mapped P (λ Q. Q c (Sealed x) (Sealed y))
      (λ Q. NullOr (Q c (Sealed x) (Sealed y)) (Sealed x) (Sealed y)) _ (λ Q k. inr k) (one P c (Sealed x) (Sealed y) h)

  gathers_at : (c : Class) (a b : Atom) → Correspond P c a b → Gathers P (λ Q. Correspond Q c a b) (pairs_at c a b)
  gathers_at Open a b h = none P _ (λ Q. h)
  gathers_at (Det key ty) a b h = gathers_null_or (Det key ty) a b h
  gathers_at (Rnd key ty) a b h = gathers_null_or (Rnd key ty) a b h

  gathers_row : (cs : List Class) (row others : List Atom) → RowsCorrespond P cs row others → Gathers P (λ Q. RowsCorrespond Q cs row others) (pairs_of_rows cs row others)
  gathers_row [] [] [] h = none P _ (λ Q. tt)
  gathers_row (c ∷ cs) (a ∷ row) (b ∷ bs) h = both P (λ Q. Correspond Q c a b) (λ Q. RowsCorrespond Q cs row bs) _ _ (gathers_at c a b h.0) (gathers_row cs row bs h.1)
  gathers_row cs row others h = absurd h

  gathers_reply : (cs : List Class) (r q : Reply) → ReplyCorresponds P cs r q → Gathers P (λ Q. ReplyCorresponds Q cs r q) (pairs_of_reply cs r q)
  gathers_reply cs (Row row) (Row others) h = gathers_row cs row others h
  gathers_reply cs (Described d) q h = none P _ (λ Q. h)
  gathers_reply cs (Columns header) q h = none P _ (λ Q. h)
  gathers_reply cs (Ended done) q h = none P _ (λ Q. h)
  gathers_reply cs (Refused f) q h = none P _ (λ Q. h)
  gathers_reply cs reply other h = absurd h

  gathers_replies : (cs : List Class) (rs qs : List Reply) → RepliesCorrespond P cs rs qs → Gathers P (λ Q. RepliesCorrespond Q cs rs qs) (pairs_of_replies cs rs qs)
  gathers_replies cs [] [] h = none P _ (λ Q. tt)
  gathers_replies cs (r ∷ rs) (q ∷ qs) h =
      both P (λ Q. ReplyCorresponds Q cs r q) (λ Q. RepliesCorrespond Q (classes_behind cs r) rs qs) _ _ (gathers_reply cs r q h.0) (gathers_replies (classes_behind cs r) rs qs h.1)
  gathers_replies cs replies others h = absurd h

  pub gathers_exchange : (e f : Exchange) → ExchangeCorresponds P e f → Gathers P (λ Q. ExchangeCorresponds Q e f) (pairs_of_exchange e f)
  gathers_exchange e f h =
      both P (λ Q. RequestsCorrespond Q e.request f.request) (λ Q. RepliesCorrespond Q [] e.replies f.replies)
      _ _ (gathers_request e.request f.request h.0) (gathers_replies [] e.replies f.replies h.1)

  pub gathers_exchanges : (es fs : List Exchange) → ExchangesCorrespond P es fs → Gathers P (λ Q. ExchangesCorrespond Q es fs) (pairs_in es fs)
  gathers_exchanges [] [] h = none P _ (λ Q. tt)
  gathers_exchanges (e ∷ es) (f ∷ fs) h =
      both P (λ Q. ExchangeCorresponds Q e f) (λ Q. ExchangesCorrespond Q es fs) _ _ (gathers_exchange e f h.0) (gathers_exchanges es fs h.1)
  gathers_exchanges es fs h = absurd h
