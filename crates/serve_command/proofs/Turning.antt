-- One request more is answered, and what stands where the requests that are held end.
use Rattle.std.proofs.Common.{◌≡◌, ◌+◌, ◌<◌, ◌^◌, ℕ, List, [], ◌∷◌, ◌++◌, length, take, drop, refl, sym, ap, subst, ◌∙◌, length-append, append-nil, append_assoc, arith, inl, inr}
use Rattle.std.specs.Prelude.{flat_map, Bool, true, false, if◌then◌else◌}
use Rattle.std.proofs.lemmas.List.{flat_map_more, length-take-le}
use Rattle.wire_messages.specs.declared.requests.Request.{Request}
use Rattle.wire_payloads.specs.declared.versioned.Versioned.{Versioned}
use Rattle.wire_encoding.specs.Spelling.{SpellsRequest, asked_frame}
use Rattle.wire_frames.specs.Decoding.{has_head}
use Rattle.wire_frames.specs.Frames.{End, Whole, Refused, Rest, EndsSo, IsNotYet, IsRefused, is_request_head}
use Rattle.wire_frames.specs.declared.decoding.Way.{Way}
use Rattle.wire_frames.specs.declared.decoding.Way.TheVariants.{ToServer}
use Rattle.frame_feed.specs.Feeding.{Feeding, SpellsMessage, StandsWhole, behind, with_piece, empty_feed}
use Rattle.frame_feed.specs.Steps.{Steps}
use Rattle.frame_feed.specs.declared.feeds.Next.TheVariants as next
use Rattle.frame_feed.specs.declared.messages.Message.TheVariants.{Asks}
use Rattle.serve_command.specs.Requests.{AnswersEach, AnswersEachOpen, AnswersSome, AreAnswered, Begins, IsOpen, StopsAfter}
use Rattle.serve_command.specs.Turns.{AnswersNext, Drains, IsNext, Stands, StopsNext, Turns}
use Rattle.serve_command.specs.declared.turns.Drained.TheVariants as drained
use Rattle.serve_command.specs.declared.turns.Turn.TheVariants as turn
use Rattle.serve_command.proofs.Beginning.{begins_none, begins_more, begins_fed}

-- ---- what stands next

pub stands_whole : (feed : Feeding) (request : Versioned Request) (used : ℕ) → feed.way ≡ ToServer → IsNext feed request used → StandsWhole used feed
stands_whole feed request used way next = record {
  message = Asks request;
  held = next.held;
  spelled = subst (λ (w : Way). SpellsMessage w (Asks request) (take used feed.held)) (sym way) next.spells;
}

pub refused_so : (way : Way) (held : List ℕ) → way ≡ ToServer → IsRefused (has_head way) (SpellsMessage way) held → IsRefused is_request_head SpellsRequest held
refused_so way held e h =
    let asks : IsRefused is_request_head (SpellsMessage ToServer) held = subst (λ (w : Way). IsRefused (has_head w) (SpellsMessage w) held) e h in
    (asks.0, elim asks.1 [ inl header ↦ inl header | inr frame ↦ inr (frame.0, λ (r : Versioned Request) s. frame.1 (Asks r) s) ])

-- ---- requests that are answered one after another

-- one request more
pub answered_more : {V : Type 0} (answers : V → Versioned Request → V → Type 0) (requests : List (Versioned Request)) (r : Versioned Request) (first now new : V)
    → AreAnswered answers first requests now → answers now r new → AreAnswered answers first (requests ++ r ∷ []) new
answered_more {V} answers [] r first now new a b = (new, subst (λ (v : V). answers v r new) a b, refl)
answered_more answers (q ∷ requests) r first now new a b = (a.0, a.1, answered_more answers requests r a.0 now new a.2 b)

-- what one request more keeps is kept by all of them
pub answered_keeps : {V : Type 0} (answers : V → Versioned Request → V → Type 0) (P : List (Versioned Request) → V → Type 0)
    → ((requests : List (Versioned Request)) (r : Versioned Request) (now new : V) → P requests now → answers now r new → P (requests ++ r ∷ []) new)
    → (before requests : List (Versioned Request)) (first last : V) → P before first → AreAnswered answers first requests last → P (before ++ requests) last
answered_keeps {V} answers P more before [] first last p a = subst (λ (v : V). P (before ++ []) v) (sym a) (subst (λ (l : List (Versioned Request)). P l first) (sym (append-nil before)) p)
answered_keeps answers P more before (r ∷ requests) first last p a =
    subst (λ (l : List (Versioned Request)). P l last) (append_assoc before (r ∷ []) requests)
    (answered_keeps answers P more (before ++ r ∷ []) requests a.0 last (more before r first a.0 p a.1) a.2)

-- ---- all that was taken

-- where less than a frame is held, it ends after a frame, or inside one
open_end : (at : ℕ) (held : List ℕ) → IsNotYet is_request_head held → (end : End) × IsOpen end × EndsSo is_request_head SpellsRequest at held end
open_end at [] w = (Whole, tt, refl)
open_end at (byte ∷ held) w = (Rest at, tt, (refl, omega arith, w))

unless : {A : Type 0} (b : Bool) (x y : A) → b ≡ false → x ≡ (if b then y else x)
unless true x y e = cc
unless false x y e = refl

held_fed : (feed : Feeding) (piece : List ℕ) → feed.failed ≡ false → feed.held ++ piece ≡ (with_piece feed piece).held
held_fed feed piece waits = unless feed.failed (feed.held ++ piece) feed.held waits

pub stands_first : {V : Type 0} (answers : V → Versioned Request → V → Type 0) (first : V) → Stands answers [] (empty_feed ToServer) first first
stands_first answers first = record { requests = []; begins = begins_none []; place = refl; way = refl; waits = refl; answered = refl }

pub stands_fed : {V : Type 0} (answers : V → Versioned Request → V → Type 0) (taken piece : List ℕ) (feed : Feeding) (first now : V)
    → Stands answers taken feed first now → Stands answers (taken ++ piece) (with_piece feed piece) first now
stands_fed answers taken piece feed first now s = record {
  requests = s.requests;
  begins = subst (λ (l : List ℕ). Begins (taken ++ piece) s.requests l) (held_fed feed piece s.waits) (begins_fed taken s.requests feed.held piece s.begins);
  place = s.place;
  way = s.way;
  waits = s.waits;
  answered = s.answered;
}

module _ {V : Type 0} (answers : V → Versioned Request → V → Type 0) (taken : List ℕ) (feed : Feeding) (first now : V) (s : Stands answers taken feed first now) where
  pub stands_more : (used : ℕ) (new : V) → length taken < 2 ^ 64 → AnswersNext answers feed used now new → Stands answers taken (behind feed used) first new
  stands_more used new short a =
      let more = begins_more taken s.requests feed.held used a.request s.begins a.next.spells in
      let frame : length (asked_frame a.request) ≡ used = ap length (sym a.next.spells.1) ∙ length-take-le used feed.held a.next.held in
      let all : length (flat_map asked_frame (s.requests ++ a.request ∷ [])) ≡ length (flat_map asked_frame s.requests) + length (asked_frame a.request) =
      ap length (sym (flat_map_more asked_frame [] s.requests a.request)) ∙ length-append (flat_map asked_frame s.requests) (asked_frame a.request) in
      let fits = ap length more.whole ∙ length-append (flat_map asked_frame (s.requests ++ a.request ∷ [])) (drop used feed.held) in
      record {
        requests = s.requests ++ a.request ∷ [];
        begins = more;
        place = omega (arith, s.place, frame, all, fits, short);
        way = s.way;
        waits = s.waits;
        answered = answered_more answers s.requests a.request first now new s.answered a.answered;
      }

  unfoldable pub answers_some : AnswersSome answers taken first now
  answers_some = record { requests = s.requests; others = feed.held; begins = s.begins; answered = s.answered }

  -- what was taken ends so
  pub answers_each : (end : End) → EndsSo is_request_head SpellsRequest feed.at feed.held end → AnswersEach answers taken end first now
  unfolding answers_some
  answers_each end e = record { some = answers_some; ends = subst (λ (n : ℕ). EndsSo is_request_head SpellsRequest n feed.held end) s.place e }

  -- less than a frame is held
  pub answers_open : IsNotYet is_request_head feed.held → AnswersEachOpen answers taken first now
  answers_open w = let e = open_end feed.at feed.held w in (e.0, e.1, answers_each e.0 e.2)

  pub stops_after : (stops : V → Versioned Request → V → Type 0) (new : V) → StopsNext stops feed now new → StopsAfter answers stops taken first new
  unfolding answers_some
  stops_after stops new b = record {
    between = now;
    some = answers_some;
    next = b.request;
    others = drop b.used feed.held;
    begins = begins_more taken s.requests feed.held b.used b.request s.begins b.next.spells;
    stopped = b.stopped;
  }

-- ---- where it ends

module _ {V E : Type 0} (answers : V → Versioned Request → V → Type 0) (stops : E → V → Versioned Request → V → Type 0) (taken : List ℕ) (feed : Feeding) (first now new : V)
    (s : Stands answers taken feed first now) where
  pub drains_waits : Turns answers stops turn.Waits feed now new → Drains answers stops drained.Waits taken feed first new
  drains_waits t = (subst (λ (v : V). Stands answers taken feed first v) (sym t.2) s, t.0)

  pub drains_refused : (place : ℕ) → Turns answers stops (turn.Refused place) feed now new → AnswersEach answers taken (Refused place) first new
  drains_refused place t =
      subst (λ (v : V). AnswersEach answers taken (Refused place) first v) (sym t.2) (answers_each answers taken feed first now s (Refused place) (t.0, t.1))

  pub drains_unread : new ≡ now → AnswersSome answers taken first new
  drains_unread e = subst (λ (v : V). AnswersSome answers taken first v) (sym e) (answers_some answers taken feed first now s)
