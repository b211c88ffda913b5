-- Requests that are answered and recorded, and what stands where one isn't.
use Rattle.std.proofs.Common.{◌≡◌, ◌⊎◌, inl, inr, ℕ, List, [], ◌∷◌, ◌++◌, length, map, Option, refl, sym, ap, subst, ◌∙◌, append-nil, arith}
use Rattle.ae_edge.specs.Devices.{Adds, AddsPrefix}
use Rattle.ae_edge.proofs.Interface.{adds_none, adds_then, adds_then_front, front_of, front_same}
use Rattle.recording_laws.specs.Recorded.{nothing_held}
use Rattle.server_core.specs.Serve.{State, serve}
use Rattle.serve_command.specs.Requests.{AreAnswered}
use Rattle.serve_command.specs.ServeAll.{answer_frames, reply_frames, state_after}
use Rattle.serve_command.specs.Serving.{Begins, AnswersFirst, BreaksOff}
use Rattle.serve_command.proofs.Interface.{answered_keeps, breaks_off, frames_more, state_more}
use Rattle.wire_frames.specs.Frames.{IsNotYet, IsRefused, is_request_head}
use Rattle.wire_encoding.specs.Spelling.{SpellsRequest}
use Rattle.journal_command.specs.Durable.{AnswersRequest, AnswersWhole, DurableState, DurableView, outside_of}
use Rattle.journal_command.specs.Keeping.{Asked, entries_of, frames_of, held_after, held_behind, keeping, records_of}
use Rattle.journal_command.specs.Records.{HaveRoom, HasNoRoom, TriesEntries}
use Rattle.journal_command.specs.Running.{HasKept, HasKeptAll, HasNoRoomFor, HasRoomFor}
use Rattle.journal_command.specs.Stopping.{Outside, AreThere, MayBeThere}
use Rattle.journal_command.proofs.Adding.{adds_more, adds_no_entry, added_tried, place_append, room_more, tries_more}
use Rattle.journal_command.proofs.Recording.{entries_append, held_more, one_record, recorded_more}

-- ---- what is on the disk

there_none : (old : Outside) → AreThere [] old old
there_none old = record { added = adds_no_entry old.gate old.disk; gate = omega arith; room = tt }

there_more : (xs ys : List (List ℕ)) (a b c : Outside) → AreThere xs a b → AreThere ys b c → AreThere (xs ++ ys) a c
there_more xs ys a b c p q = record {
  added = adds_more a.gate b.gate c.gate xs ys a.disk b.disk c.disk p.added q.added;
  gate = omega (arith, p.gate, q.gate, place_append xs ys);
  room = room_more a.gate b.gate xs ys p.gate p.room q.room;
}

-- ---- the requests that were answered

-- from a first state on they led to this one, the frames of their replies were put, and their records are on the disk
pub record IsSoFar (start : State) (answered : List Asked) (durable : DurableState) (first now : Outside) : Type 0 where
  pub left : durable.state ≡ state_after start answered
  pub held : durable.held ≡ map frames_of (held_after start nothing_held answered)
  pub put : Adds (reply_frames start answered) first.out now.out
  pub there : AreThere (entries_of (records_of start nothing_held answered)) first now

so_far_first : (durable : DurableState) (old : Outside) → durable.held ≡ map frames_of nothing_held → IsSoFar durable.state [] durable old old
so_far_first durable old h = record { left = refl; held = h; put = adds_none old.out; there = there_none old }

module _ (start : State) (answered : List Asked) (durable : DurableState) (first now : Outside) (s : IsSoFar start answered durable first now) where
  abbrev held : List (List Asked)
  held = held_after start nothing_held answered

  -- what a request's records are, in the state that was reached
  records_next : (r : Asked) → records_of start nothing_held (answered ++ r ∷ []) ≡ records_of start nothing_held answered ++ (keeping durable.state held r).records
  records_next r =
      recorded_more start nothing_held answered r
      ∙ ap (λ (x : State). records_of start nothing_held answered ++ (keeping x held r).records) (sym s.left)

  entries_more : (r : Asked)
      → entries_of (records_of start nothing_held (answered ++ r ∷ [])) ≡ entries_of (records_of start nothing_held answered) ++ entries_of (keeping durable.state held r).records
  entries_more r = ap entries_of (records_next r) ∙ entries_append (records_of start nothing_held answered) (keeping durable.state held r).records

  there_next : (r : Asked) (new : Outside) → AreThere (entries_of (keeping durable.state held r).records) now new → AreThere (entries_of (records_of start nothing_held (answered ++ r ∷ []))) first new
  there_next r new t =
      subst (λ (l : List (List ℕ)). AreThere l first new) (sym (entries_more r))
      (there_more (entries_of (records_of start nothing_held answered)) (entries_of (keeping durable.state held r).records) first now new s.there t)

  tried_next : (r : Asked) (new : Outside) → MayBeThere (entries_of (keeping durable.state held r).records) now new
      → TriesEntries first.gate (entries_of (records_of start nothing_held answered)) (entries_of (records_of start nothing_held (answered ++ r ∷ []))) first.disk new.disk
  tried_next r new t =
      subst (λ (l : List (List ℕ)). TriesEntries first.gate (entries_of (records_of start nothing_held answered)) l first.disk new.disk) (sym (entries_more r))
      (tries_more first.gate now.gate (entries_of (records_of start nothing_held answered)) (entries_of (keeping durable.state held r).records) first.disk now.disk new.disk s.there.added t.tried)

  so_far_more : (r : Asked) (after : DurableState) (new : Outside) → AnswersWhole held r durable after now new → IsSoFar start (answered ++ r ∷ []) after first new
  so_far_more r after new w = record {
    left = w.state ∙ ap (λ (x : State). (serve x r.message).after) s.left ∙ sym (state_more start answered r);
    held =
        w.held
        ∙ ap (λ (x : State). map frames_of (held_behind x held r)) s.left
        ∙ ap (map frames_of) (sym (held_more start nothing_held answered r));
    put =
        subst (λ (l : List ℕ). Adds l first.out new.out) (sym (frames_more start answered r))
        (adds_then (reply_frames start answered) (answer_frames (state_after start answered) r) first.out now.out new.out s.put
        (subst (λ (x : State). Adds (answer_frames x r) now.out new.out) s.left w.put));
    there = there_next r new w.there;
  }

  -- ---- where it ends

  -- these requests were answered, with their records on the disk, and no other one was tried
  kept_whole : (taken : List ℕ) (requests : List Asked) (others : List ℕ) (new : Outside) → Begins taken requests others → AddsPrefix (reply_frames start requests) first.out new.out
      → AreThere (entries_of (records_of start nothing_held requests)) first new → HasRoomFor start taken first new
  kept_whole taken requests others new begins put t =
      let none = sym (append-nil requests) in
      record {
        kept = record {
          answered = requests;
          tried = [];
          few = omega arith;
          others = others;
          begins = subst (λ (l : List Asked). Begins taken l others) none begins;
          put = put;
          kept =
              subst (λ (l : List Asked). TriesEntries first.gate (entries_of (records_of start nothing_held requests)) (entries_of (records_of start nothing_held l)) first.disk new.disk) none
              (added_tried first.gate new.gate (entries_of (records_of start nothing_held requests)) first.disk new.disk t.added);
          room = t.room;
        };
        room = subst (λ (l : List Asked). HaveRoom first.gate (entries_of (records_of start nothing_held l))) none t.room;
      }

  pub kept_so_far : (taken others : List ℕ) → Begins taken answered others → HasRoomFor start taken first now
  kept_so_far taken others begins =
      kept_whole taken answered others now begins
      (front_of (reply_frames start answered) (reply_frames start answered) first.out now.out s.put (front_same (reply_frames start answered))) s.there

  -- less than a frame stands behind them, or what is refused
  pub kept_all : (taken others : List ℕ) → Begins taken answered others → IsNotYet is_request_head others ⊎ IsRefused is_request_head SpellsRequest others → HasKeptAll start taken taken first now
  unfolding kept_so_far kept_whole
  kept_all taken others begins ends = record { kept = kept_so_far taken others begins; all = record { others = others; begins = begins; ends = ends }; none = refl }

  module _ (taken : List ℕ) (r : Asked) (others : List ℕ) (begins : Begins taken (answered ++ r ∷ []) others) (new : Outside) where
    -- its records are on the disk, and some of its replies were put
    pub kept_in_part : AreThere (entries_of (keeping durable.state held r).records) now new → AddsPrefix (answer_frames durable.state r) now.out new.out → HasRoomFor start taken first new
    kept_in_part t put =
        let of_start = subst (λ (x : State). AddsPrefix (answer_frames x r) now.out new.out) s.left put in
        kept_whole taken (answered ++ r ∷ []) others new begins
        (subst (λ (l : List ℕ). AddsPrefix l first.out new.out) (sym (frames_more start answered r))
        (adds_then_front (reply_frames start answered) (answer_frames (state_after start answered) r) first.out now.out new.out s.put of_start)) (there_next r new t)

    -- its records may be on the disk, and nothing was put
    pub kept_before : MayBeThere (entries_of (keeping durable.state held r).records) now new → HasKept start taken first new
    kept_before t = record {
      answered = answered;
      tried = r ∷ [];
      few = omega arith;
      others = others;
      begins = begins;
      put =
          subst (λ (x : Option (List ℕ)). AddsPrefix (reply_frames start answered) first.out x) (sym t.put)
          (front_of (reply_frames start answered) (reply_frames start answered) first.out now.out s.put (front_same (reply_frames start answered)));
      kept = tried_next r new t;
      room = s.there.room;
    }

    pub kept_tried : MayBeThere (entries_of (keeping durable.state held r).records) now new → HaveRoom now.gate (entries_of (keeping durable.state held r).records) → HasRoomFor start taken first new
    unfolding kept_before
    kept_tried t room = record {
      kept = kept_before t;
      room = subst (HaveRoom first.gate) (sym (entries_more r))
          (room_more first.gate now.gate (entries_of (records_of start nothing_held answered)) (entries_of (keeping durable.state held r).records) s.there.gate s.there.room room);
    }

    pub kept_full : MayBeThere (entries_of (keeping durable.state held r).records) now new → HasNoRoom now.gate (entries_of (keeping durable.state held r).records) → HasNoRoomFor start taken first new
    unfolding kept_before
    kept_full t full =
        let one = one_record (keeping durable.state held r).records full.entry full.is in
        record {
          kept = kept_before t;
          last = one.last;
          is = records_next r ∙ ap (λ (l : List (List Asked)). records_of start nothing_held answered ++ l) one.is;
          full = omega (arith, full.full, s.there.gate, ap length one.bytes);
        }

    pub breaks_in : AddsPrefix (answer_frames durable.state r) now.out new.out → BreaksOff start taken first.out new.out
    breaks_in put = breaks_off start taken answered first.out now.out s.put r others new.out begins (subst (λ (x : State). AddsPrefix (answer_frames x r) now.out new.out) s.left put)

  pub first_before : (taken others : List ℕ) → Begins taken answered others → (new : Outside) → new.out ≡ now.out → AnswersFirst start taken first.out new.out
  first_before taken others begins new e =
      subst (λ (x : Option (List ℕ)). AnswersFirst start taken first.out x) (sym e) (record { answered = answered; others = others; begins = begins; put = s.put })

-- ---- all of them

pub so_far : (requests : List Asked) (first last : DurableView) → first.durable.held ≡ map frames_of nothing_held → AreAnswered AnswersRequest first requests last
    → IsSoFar first.durable.state requests last.durable (outside_of first) (outside_of last)
so_far requests first last h a =
    answered_keeps AnswersRequest (λ (l : List Asked) (v : DurableView). IsSoFar first.durable.state l v.durable (outside_of first) (outside_of v))
    (λ l r now new s w. so_far_more first.durable.state l now.durable (outside_of first) (outside_of now) s r new.durable (outside_of new) (w (held_after first.durable.state nothing_held l) s.held)) [] requests
    first last (so_far_first first.durable (outside_of first) h) a
