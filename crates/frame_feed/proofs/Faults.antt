-- What stands first and is refused stays there, and nothing is given.
use Rattle.std.proofs.Common.{◌≡◌, ◌⊎◌, ◌<◌, ◌≤◌, ◌+◌, ◌∙◌, ℕ, List, [], ◌∷◌, ◌++◌, length, take, drop, Bool, true, false, nat_le, Some, refl, sym, ap, subst, arith, inl, inr}
use Rattle.std.proofs.lemmas.List.{append-nil, take-append-drop, take-append-le, length-take-le}
use Rattle.std.proofs.lemmas.Bool.Decides.{nat_tests}
use Rattle.wire_frames.specs.Decoding.{has_head}
use Rattle.wire_frames.specs.Frames.{Placed, End, Whole, Refused, Rest, EndsSo, IsNotYet, IsRefused, stated, is_no_header}
use Rattle.wire_frames.specs.Laws.{IsReadOnce}
use Rattle.wire_frames.specs.declared.decoding.Way.{Way}
use Rattle.frame_feed.specs.Calls.{Call, Fed, Given, Shown, Lead, given_by, messages_of}
use Rattle.frame_feed.specs.Feeding.{Feeding, SpellsMessage, with_piece, refused, rest_of}
use Rattle.frame_feed.specs.Steps.{Steps}
use Rattle.frame_feed.specs.declared.feeds.Next.{Next}
use Rattle.frame_feed.specs.declared.feeds.Next.TheVariants as next
use Rattle.frame_feed.specs.declared.messages.Message.{Message}
use Rattle.frame_feed.proofs.Histories.{rest_there}
use Rattle.frame_feed.proofs.Streams.{refused_more}

-- ---- what is refused is no message, and no less than a frame

module _ {M : Type 0} (is_head : ℕ → ℕ → Bool) (Spells : M → List ℕ → Type 0) (once : IsReadOnce is_head Spells) where
  ends_no_other : (front : List ℕ) (m : M) (end : End) → Spells m front → EndsSo is_head Spells 0 front end → ⊥
  ends_no_other front m end s h =
      let first : Placed M = record { at = 0; message = m } in
      let same = (once 0 front (first ∷ []) [] Whole end (front, [], sym (append-nil front), refl, s, refl) h).0 in cc

  front_ends : (front : List ℕ) (m : M) (none : Bool) → is_no_header is_head front ≡ none → 6 ≤ length front → length front < 6 + stated front → Spells m front → ⊥
  front_ends front m true header six short s = ends_no_other front m (Refused 0) s (refl, (six, inl header))
  front_ends front m false header six short s = ends_no_other front m (Rest 0) s (refl, omega (arith, six), inr (six, header, short))

  front_whole : (front more : List ℕ) (m : M) → 6 ≤ length front → 6 + stated front ≤ length front → ((n : M) → Spells n (take (6 + stated front) (front ++ more)) → ⊥) → Spells m front → ⊥
  front_whole front more m six whole never s =
      let same = take-append-le (6 + stated front) front more whole in
      ends_no_other front m (Refused 0) s (refl, (six, inr (whole, λ (n : M) t. never n (subst (λ (f : List ℕ). Spells n f) (sym same) t))))

  by_length : (front more : List ℕ) (m : M) (fits : Bool) → nat_le (6 + stated front) (length front) ≡ fits → 6 ≤ length front
      → ((n : M) → Spells n (take (6 + stated front) (front ++ more)) → ⊥) → Spells m front → ⊥
  by_length front more m true fits six never s = let whole : 6 + stated front ≤ length front = grind (arith, nat_tests) in front_whole front more m six whole never s
  by_length front more m false fits six never s =
      let short : length front < 6 + stated front = grind (arith, nat_tests) in front_ends front m (is_no_header is_head front) refl six short s

  pub never_first : (front more : List ℕ) (m : M) → 6 ≤ length front → IsRefused is_head Spells (front ++ more) → Spells m front → ⊥
  never_first [] more m six h s = absurd (omega (arith, six))
  never_first (v ∷ []) more m six h s = absurd (omega (arith, six))
  never_first (v ∷ k ∷ []) more m six h s = absurd (omega (arith, six))
  never_first (v ∷ k ∷ a ∷ []) more m six h s = absurd (omega (arith, six))
  never_first (v ∷ k ∷ a ∷ b ∷ []) more m six h s = absurd (omega (arith, six))
  never_first (v ∷ k ∷ a ∷ b ∷ c ∷ []) more m six h s = absurd (omega (arith, six))
  never_first (v ∷ k ∷ a ∷ b ∷ c ∷ d ∷ rest) more m six h s =
      let front : List ℕ = v ∷ k ∷ a ∷ b ∷ c ∷ d ∷ rest in
      elim h.1 [
        | inl header ↦ ends_no_other front m (Refused 0) s (refl, (six, inl header))
        | inr frame ↦ by_length front more m (nat_le (6 + stated front) (length front)) refl six frame.1 s
      ]

  pub never_waits : (bytes : List ℕ) → IsRefused is_head Spells bytes → IsNotYet is_head bytes → ⊥
  never_waits bytes h waits =
      let same = (once 0 bytes [] [] (Refused 0) (Rest 0) (refl, h) (refl, omega (arith, h.0), waits)).1 in cc

-- ---- a feed

pub record StandsBad (place : ℕ) (f : Feeding) : Type 0 where
  pub there : place ≡ f.at
  pub bad : IsRefused (has_head f.way) (SpellsMessage f.way) f.held

bad_fed_at : (place : ℕ) (way : Way) (at : ℕ) (held : List ℕ) (failed : Bool) (piece : List ℕ)
    → StandsBad place (record { way = way; at = at; held = held; failed = failed }) → StandsBad place (with_piece (record { way = way; at = at; held = held; failed = failed }) piece)
bad_fed_at place way at held true piece b = record { there = b.there; bad = b.bad }
bad_fed_at place way at held false piece b = record { there = b.there; bad = refused_more (has_head way) (SpellsMessage way) held piece b.bad }

module _ (once : (way : Way) → IsReadOnce (has_head way) (SpellsMessage way)) where
  never_one : (f : Feeding) (used : ℕ) (message : Message) → IsRefused (has_head f.way) (SpellsMessage f.way) f.held
      → 6 ≤ used → used ≤ length f.held → SpellsMessage f.way message (take used f.held) → ⊥
  never_one f used message bad six fits s =
      never_first (has_head f.way) (SpellsMessage f.way) (once f.way) (take used f.held) (drop used f.held) message (omega (arith, six, length-take-le used f.held fits))
      (subst (λ (l : List ℕ). IsRefused (has_head f.way) (SpellsMessage f.way) l) (sym (take-append-drop used f.held)) bad) s

  -- the place stays, and nothing is given
  bad_given : (place : ℕ) (answer : Next) (old new : Feeding) → StandsBad place old → Steps answer old new → StandsBad place new × (given_by answer ≡ [])
  bad_given place (next.One at used message) old new b s = absurd (never_one old used message b.bad s.2 s.3 s.4)
  bad_given place next.NotYet old new b s = absurd (never_waits (has_head old.way) (SpellsMessage old.way) (once old.way) old.held b.bad s.2)
  bad_given place (next.Bad at) old new b s =
      let still : StandsBad place (refused old) = record { there = b.there; bad = b.bad } in
      (subst (λ (f : Feeding). StandsBad place f) (sym s.2) still, refl)
  bad_given place next.OutOfMemory old new b s = (subst (λ (f : Feeding). StandsBad place f) (sym s.1) b, refl)

  bad_leads : (place : ℕ) (calls : List Call) (old now : Feeding) → StandsBad place old → Lead calls old now → StandsBad place now × (messages_of calls ≡ [])
  bad_leads place [] old now b lead = (subst (λ (f : Feeding). StandsBad place f) (sym lead) b, refl)
  bad_leads place (Fed piece ∷ calls) old now b lead = bad_leads place calls (with_piece old piece) now (bad_fed_at place old.way old.at old.held old.failed piece b) lead
  bad_leads place (Given answer ∷ calls) old now b lead =
      let g = bad_given place answer old lead.0 b lead.1 in
      let more = bad_leads place calls lead.0 now g.0 lead.2 in
      (more.0, ap (λ (ms : List (Placed Message)). ms ++ messages_of calls) g.1 ∙ more.1)
  bad_leads place (Shown answer ∷ calls) old now b lead = bad_leads place calls old now b lead.1

  bad_shown : (place : ℕ) (answer : Next) (now after : Feeding) → StandsBad place now → Steps answer now after → (answer ≡ next.Bad place) ⊎ (answer ≡ next.OutOfMemory)
  bad_shown place (next.One at used message) now after b s = absurd (never_one now used message b.bad s.2 s.3 s.4)
  bad_shown place next.NotYet now after b s = absurd (never_waits (has_head now.way) (SpellsMessage now.way) (once now.way) now.held b.bad s.2)
  bad_shown place (next.Bad at) now after b s = inl (ap next.Bad (s.0 ∙ sym b.there))
  bad_shown place next.OutOfMemory now after b s = inr refl

  pub refusal_kept : (old failed now after : Feeding) (place : ℕ) (calls : List Call) (answer : Next) → Steps (next.Bad place) old failed → Lead calls old now → Steps answer now after
      → (messages_of calls ≡ []) × ((answer ≡ next.Bad place) ⊎ (answer ≡ next.OutOfMemory)) × (rest_of now ≡ Some place)
  refusal_kept old failed now after place calls answer s lead a =
      let first : StandsBad place old = record { there = s.0; bad = s.1 } in
      let l = bad_leads place calls old now first lead in
      (l.1, bad_shown place answer now after l.0 a, rest_there now place l.0.there l.0.bad.0)
