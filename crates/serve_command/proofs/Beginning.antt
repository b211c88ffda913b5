-- Bytes that begin with requests, and how they are read.
use Rattle.std.proofs.Common.{◌≡◌, ◌+◌, ◌<◌, ◌≤◌, ℕ, List, [], ◌∷◌, ◌++◌, length, take, drop, Bool, true, false, refl, sym, ap, subst, ◌∙◌, append_assoc, length-append, add-zero, arith, inl, inr}
use Rattle.std.specs.Prelude.{flat_map, ◌⊎◌}
use Rattle.std.proofs.lemmas.Bool.{cases_lt}
use Rattle.std.specs.List.{All}
use Rattle.std.proofs.lemmas.List.{append_cancel_left, append-nil, take-append-le, take-append-drop, flat_map_more}
use Rattle.std.proofs.lemmas.List.Elements.{All-nil, All-cons, All-push, All-head, All-tail}
use Rattle.ae_edge.specs.Devices.{IsPrefix}
use Rattle.ae_edge.proofs.Interface.{front_none}
use Rattle.wire_messages.specs.declared.requests.Request.{Request}
use Rattle.wire_payloads.specs.declared.versioned.Versioned.{Versioned}
use Rattle.wire_encoding.specs.Spelling.{SpellsRequest, asked_frame}
use Rattle.wire_frames.specs.Frames.{Placed, End, Whole, Refused, Rest, EndsSo, ReadsAs, RequestFrames, IsRefused, is_request_head, is_no_header, placed_from, stated}
use Rattle.wire_frames.specs.Laws.{HasOneReading, IsReadBack, IsReadOnce}
use Rattle.serve_command.specs.ServeAll.{requests_of}
use Rattle.serve_command.specs.Requests.{Begins, IsProper}

-- ---- beginnings

-- nothing begins with no request
pub begins_none : (bytes : List ℕ) → Begins bytes [] bytes
begins_none bytes = record { whole = refl; proper = All-nil IsProper }

-- the next request is one of those that it begins with
pub begins_more : (bytes : List ℕ) (requests : List (Versioned Request)) (held : List ℕ) (used : ℕ) (r : Versioned Request)
    → Begins bytes requests held → SpellsRequest r (take used held) → Begins bytes (requests ++ r ∷ []) (drop used held)
begins_more bytes requests held used r b s = record {
  whole =
      b.whole ∙ ap (λ (l : List ℕ). flat_map asked_frame requests ++ l) (sym (take-append-drop used held) ∙ ap (λ (l : List ℕ). l ++ drop used held) s.1)
      ∙ sym (append_assoc (flat_map asked_frame requests) (asked_frame r) (drop used held))
      ∙ ap (λ (l : List ℕ). l ++ drop used held) (flat_map_more asked_frame [] requests r);
  proper = All-push IsProper requests r b.proper s.0;
}

-- more bytes follow
pub begins_fed : (bytes : List ℕ) (requests : List (Versioned Request)) (others piece : List ℕ) → Begins bytes requests others → Begins (bytes ++ piece) requests (others ++ piece)
begins_fed bytes requests others piece b = record {
  whole = ap (λ (l : List ℕ). l ++ piece) b.whole ∙ append_assoc (flat_map asked_frame requests) others piece;
  proper = b.proper;
}

-- ---- readings

placed_requests : (at : ℕ) (requests : List (Versioned Request)) → requests_of (placed_from asked_frame at requests) ≡ requests
placed_requests at [] = refl
placed_requests at (r ∷ requests) = ap (λ (l : List (Versioned Request)). r ∷ l) (placed_requests (at + length (asked_frame r)) requests)

pub requests_placed : (requests : List (Versioned Request)) → requests_of (placed_from asked_frame 0 requests) ≡ requests
requests_placed requests = placed_requests 0 requests

reads_from : (at : ℕ) (requests : List (Versioned Request)) (others : List ℕ) (end : End) → All IsProper requests
    → EndsSo is_request_head SpellsRequest (at + length (flat_map asked_frame requests)) others end
    → ReadsAs is_request_head SpellsRequest at (flat_map asked_frame requests ++ others) (placed_from asked_frame at requests) end
reads_from at [] others end good e = subst (λ (k : ℕ). EndsSo is_request_head SpellsRequest k others end) (add-zero at) e
reads_from at (r ∷ requests) others end good e =
    let n : (at + length (asked_frame r)) + length (flat_map asked_frame requests) ≡ at + length (flat_map asked_frame (r ∷ requests)) =
    omega (arith, length-append (asked_frame r) (flat_map asked_frame requests)) in (
      asked_frame r,
      flat_map asked_frame requests ++ others,
      append_assoc (asked_frame r) (flat_map asked_frame requests) others,
      refl,
      (All-head IsProper r requests good, refl),
      reads_from (at + length (asked_frame r)) requests others end (All-tail IsProper r requests good) (subst (λ (k : ℕ). EndsSo is_request_head SpellsRequest k others end) (sym n) e),
    )

-- where what follows the requests ends so, all of it does
pub reads_so : (bytes : List ℕ) (requests : List (Versioned Request)) (others : List ℕ) (end : End) → Begins bytes requests others
    → EndsSo is_request_head SpellsRequest (length (flat_map asked_frame requests)) others end → RequestFrames bytes (placed_from asked_frame 0 requests) end
reads_so bytes requests others end b e =
    let n : length (flat_map asked_frame requests) ≡ 0 + length (flat_map asked_frame requests) = omega arith in
    subst (λ (l : List ℕ). ReadsAs is_request_head SpellsRequest 0 l (placed_from asked_frame 0 requests) end) (sym b.whole)
    (reads_from 0 requests others end b.proper (subst (λ (k : ℕ). EndsSo is_request_head SpellsRequest k others end) n e))

-- ---- a header, and what follows it

both_ways : (b : Bool) → b ≡ true → b ≡ false → ⊥
both_ways b t f = cc

none_some : {A : Type 0} (x : A) (xs : List A) → [] ≡ x ∷ xs → ⊥
none_some x xs e = cc

same_header : (bytes more : List ℕ) → 6 ≤ length bytes → (is_no_header is_request_head (bytes ++ more) ≡ is_no_header is_request_head bytes) × (stated (bytes ++ more) ≡ stated bytes)
same_header [] more l = absurd (omega (arith, l))
same_header (v ∷ []) more l = absurd (omega (arith, l))
same_header (v ∷ k ∷ []) more l = absurd (omega (arith, l))
same_header (v ∷ k ∷ a ∷ []) more l = absurd (omega (arith, l))
same_header (v ∷ k ∷ a ∷ b ∷ []) more l = absurd (omega (arith, l))
same_header (v ∷ k ∷ a ∷ b ∷ c ∷ []) more l = absurd (omega (arith, l))
same_header (v ∷ k ∷ a ∷ b ∷ c ∷ d ∷ rest) more l = (refl, refl)

-- what is refused is refused whatever follows
refused_more : (bytes more : List ℕ) → IsRefused is_request_head SpellsRequest bytes → IsRefused is_request_head SpellsRequest (bytes ++ more)
refused_more bytes more h =
    let same = same_header bytes more h.0 in
    let long = length-append bytes more in (
      omega (arith, h.0, long),
      elim h.1 [
        | inl header ↦ inl (same.0 ∙ header)
        | inr frame ↦
            let front : take (6 + stated (bytes ++ more)) (bytes ++ more) ≡ take (6 + stated bytes) bytes =
            ap (λ (n : ℕ). take (6 + n) (bytes ++ more)) same.1 ∙ take-append-le (6 + stated bytes) bytes more frame.0 in
            inr (omega (arith, frame.0, long, same.1), λ (r : Versioned Request) s. frame.1 r (subst (λ (f : List ℕ). SpellsRequest r f) front s))
      ],
    )

pub refused_further : (at : ℕ) (bytes more : List ℕ) (placed : List (Placed (Versioned Request))) (place : ℕ) → ReadsAs is_request_head SpellsRequest at bytes placed (Refused place)
    → ReadsAs is_request_head SpellsRequest at (bytes ++ more) placed (Refused place)
refused_further at bytes more [] place h = (h.0, refused_more bytes more h.1)
refused_further at bytes more (p ∷ placed) place h = (
  h.0,
  h.1 ++ more,
  ap (λ (l : List ℕ). l ++ more) h.2 ∙ append_assoc h.0 h.1 more,
  h.3,
  h.4,
  refused_further (at + length h.0) h.1 more placed place h.5,
)

-- ---- fronts

-- some bytes end somehow from a place on
abbrev IsEnded : ℕ → List ℕ → Type 0
IsEnded at bytes = (end : End) × EndsSo is_request_head SpellsRequest at bytes end

-- what is longer, and spells nothing as far as its header states, is cut at the front or refused there
by_length : (at : ℕ) (front more : List ℕ) → 0 < length front → 6 ≤ length front → is_no_header is_request_head front ≡ false
    → ((r : Versioned Request) → SpellsRequest r (take (6 + stated front) (front ++ more)) → ⊥) → (length front < 6 + stated front) ⊎ (6 + stated front ≤ length front) → IsEnded at front
by_length at front more some long ok none (inl cut) = (Rest at, (refl, some, inr (long, ok, cut)))
by_length at front more some long ok none (inr whole) =
    (Refused at, (refl, (long, inr (whole, λ (r : Versioned Request) s. none r (subst (λ (f : List ℕ). SpellsRequest r f) (sym (take-append-le (6 + stated front) front more whole)) s)))))

by_header : (at : ℕ) (front more : List ℕ) → 0 < length front → 6 ≤ length front → (bad : Bool) → is_no_header is_request_head front ≡ bad
    → (end : End) → EndsSo is_request_head SpellsRequest at (front ++ more) end → IsEnded at front
by_header at front more some long true e end h = (Refused at, (refl, (long, inl e)))
by_header at front more some long false e Whole h = absurd (omega (arith, some, ap length h, length-append front more))
by_header at front more some long false e (Refused place) h =
    let same = same_header front more long in
    elim h.1.1 [
      | inl header ↦ absurd (both_ways (is_no_header is_request_head front) (sym same.0 ∙ header) e)
      | inr frame ↦
          by_length at front more some long e
          (λ (r : Versioned Request) s. frame.1 r (subst (λ (n : ℕ). SpellsRequest r (take (6 + n) (front ++ more))) (sym same.1) s))
          (cases_lt (length front) (6 + stated front))
    ]
by_header at front more some long false e (Rest place) h =
    let same = same_header front more long in
    let longer = length-append front more in
    elim h.2 [
      | inl short ↦ absurd (omega (arith, short, longer, long))
      | inr cut ↦ (Rest at, (refl, some, inr (long, e, omega (arith, cut.2, longer, same.1))))
    ]

by_six : (at : ℕ) (front more : List ℕ) → 0 < length front → (length front < 6) ⊎ (6 ≤ length front) → (end : End) → EndsSo is_request_head SpellsRequest at (front ++ more) end → IsEnded at front
by_six at front more some (inl short) end h = (Rest at, (refl, some, inl short))
by_six at front more some (inr long) end h = by_header at front more some long (is_no_header is_request_head front) refl end h

-- where more bytes end so, their front ends somehow
ends_shorter : (at : ℕ) (front more : List ℕ) (end : End) → 0 < length front → EndsSo is_request_head SpellsRequest at (front ++ more) end → IsEnded at front
ends_shorter at front more end some h = by_six at front more some (cases_lt (length front) 6) end h

-- ---- fronts

module _ (reading : HasOneReading SpellsRequest) (once : IsReadOnce is_request_head SpellsRequest) (back : IsReadBack is_request_head SpellsRequest IsProper asked_frame) where
  -- no stream ends where a request stands
  no_end : (at : ℕ) (r : Versioned Request) (more : List ℕ) (end : End) → IsProper r → EndsSo is_request_head SpellsRequest at (asked_frame r ++ more) end → ⊥
  no_end at r more end good h =
      let some : 0 < length (asked_frame r) = omega arith in
      let short = ends_shorter at (asked_frame r) more end some h in
      let whole : ReadsAs is_request_head SpellsRequest at (asked_frame r) (placed_from asked_frame at (r ∷ [])) Whole =
      subst (λ (l : List ℕ). ReadsAs is_request_head SpellsRequest at l (placed_from asked_frame at (r ∷ [])) Whole)
      (append-nil (asked_frame r)) (back at (r ∷ []) (All-cons IsProper r [] good (All-nil IsProper))) in
      let same = once at (asked_frame r) [] (placed_from asked_frame at (r ∷ [])) short.0 Whole short.1 whole in
      absurd (none_some _ _ same.0)

  front_from : (at : ℕ) (requests : List (Versioned Request)) (others bytes : List ℕ) (placed : List (Placed (Versioned Request))) (end : End)
      → bytes ≡ flat_map asked_frame requests ++ others → All IsProper requests
      → ReadsAs is_request_head SpellsRequest at bytes placed end → IsPrefix requests (requests_of placed)
  front_from at [] others bytes placed end whole good h = front_none (requests_of placed)
  front_from at (r ∷ requests) others bytes [] end whole good h =
      let regroup = append_assoc (asked_frame r) (flat_map asked_frame requests) others in
      absurd (no_end at r (flat_map asked_frame requests ++ others) end (All-head IsProper r requests good) (subst (λ (l : List ℕ). EndsSo is_request_head SpellsRequest at l end) (whole ∙ regroup) h))
  front_from at (r ∷ requests) others bytes (p ∷ placed) end whole good h =
      let regroup = append_assoc (asked_frame r) (flat_map asked_frame requests) others in
      let split : asked_frame r ++ (flat_map asked_frame requests ++ others) ≡ h.0 ++ h.1 = sym regroup ∙ sym whole ∙ h.2 in
      let one = reading r p.message (asked_frame r) h.0 (flat_map asked_frame requests ++ others) h.1 (All-head IsProper r requests good, refl) h.4 split in
      let rest : h.1 ≡ flat_map asked_frame requests ++ others =
      append_cancel_left h.0 h.1 (flat_map asked_frame requests ++ others) (sym split ∙ ap (λ (l : List ℕ). l ++ (flat_map asked_frame requests ++ others)) one.1) in
      let front = front_from (at + length h.0) requests others h.1 placed end rest (All-tail IsProper r requests good) h.5 in
      record { rest = front.rest; is = ap (λ (x : Versioned Request). x ∷ requests_of placed) (sym one.0) ∙ ap (λ (l : List (Versioned Request)). r ∷ l) front.is }

  -- requests that the bytes begin with are the first of all
  pub requests_front : (bytes : List ℕ) (requests : List (Versioned Request)) (others : List ℕ) (placed : List (Placed (Versioned Request))) (end : End)
      → Begins bytes requests others → RequestFrames bytes placed end
      → IsPrefix requests (requests_of placed)
  requests_front bytes requests others placed end b h = front_from 0 requests others bytes placed end b.whole b.proper h
