-- How far the input was taken, and what stands where serving it ends.
use Rattle.std.proofs.Common.{◌≡◌, ◌+◌, ◌<◌, ◌≤◌, ◌^◌, ℕ, List, [], ◌++◌, length, take, Option, Some, None, refl, sym, subst, ◌∙◌, length-append, append-nil, arith, inl, inr}
use Rattle.std.specs.Io.KnownBytes.{IsAtEnd}
use Rattle.std.proofs.lemmas.List.{take-append-le, take_all}
use Rattle.ae_base.specs.Limits.{most_stream_bytes}
use Rattle.ae_edge.specs.Devices.{WhereExposed, Removes}
use Rattle.ae_edge.specs.Sources.{Takes}
use Rattle.ae_edge.specs.declared.sources.Taken.TheVariants as taken
use Rattle.ae_edge.proofs.Interface.{told_map, removes_none, removes_then}
use Rattle.wire_messages.specs.declared.requests.Request.{Request}
use Rattle.wire_payloads.specs.declared.versioned.Versioned.{Versioned}
use Rattle.wire_frames.specs.Frames.{Whole, Refused, Rest, IsNotYet, is_request_head}
use Rattle.wire_frames.specs.declared.decoding.Way.TheVariants.{ToServer}
use Rattle.frame_feed.specs.Feeding.{Feeding, empty_feed}
use Rattle.serve_command.specs.Inputs.{CountsEnding, EndsAt, ServesInput}
use Rattle.serve_command.specs.Requests.{AnswersEach, AnswersEachOpen, AnswersSome, StopsAfter}
use Rattle.serve_command.specs.Turns.{Drains, Stands}
use Rattle.serve_command.specs.declared.inputs.Ending.{Ending}
use Rattle.serve_command.specs.declared.inputs.Ending.TheVariants as ending
use Rattle.serve_command.specs.declared.turns.Drained.TheVariants as drained
use Rattle.serve_command.proofs.Turning.{answers_each, answers_open, answers_some, stands_first}

-- so much was taken of the input that so many bytes may still be; its requests were answered, and less than a frame is held
pub record Going {V : Type 0} (answers : V → Versioned Request → V → Type 0) (count : ℕ) (feed : Feeding) (source left : Option (List ℕ)) (first now : V) : Type 0 where
  pub taken : List ℕ
  pub lost : Removes taken source left
  pub few : length taken + count ≡ most_stream_bytes
  pub stands : Stands answers taken feed first now
  pub waits : IsNotYet is_request_head feed.held

pub goes_first : {V : Type 0} (answers : V → Versioned Request → V → Type 0) (feed : Feeding) (source : Option (List ℕ)) (first : V) → feed ≡ empty_feed ToServer
    → Going answers most_stream_bytes feed source source first first
goes_first answers feed source first e =
    subst (λ (x : Feeding). Going answers most_stream_bytes x source source first first) (sym e)
    (record { taken = []; lost = removes_none source; few = refl; stands = stands_first answers first; waits = inl (omega arith) })

-- ---- what a call on the input takes

removes_piece : (piece : List ℕ) (left after : Option (List ℕ)) → WhereExposed (Takes (taken.Bytes piece)) left after → Removes piece left after
removes_piece piece left after h = told_map (Takes (taken.Bytes piece)) (λ (x y : List ℕ). x ≡ piece ++ y) (λ x y e. e) left after h

removes_end : (left after : Option (List ℕ)) → WhereExposed (Takes taken.End) left after → Removes [] left after
removes_end left after h = told_map (Takes taken.End) (λ (x y : List ℕ). x ≡ [] ++ y) (λ x y e. e.0 ∙ sym e.1) left after h

removes_failed : (left after : Option (List ℕ)) → WhereExposed (Takes taken.Failed) left after → Removes [] left after
removes_failed left after h = told_map (Takes taken.Failed) (λ (x y : List ℕ). x ≡ [] ++ y) (λ x y e. sym e) left after h

removes_unheld : (left after : Option (List ℕ)) → WhereExposed (Takes taken.OutOfMemory) left after → Removes [] left after
removes_unheld left after h = told_map (Takes taken.OutOfMemory) (λ (x y : List ℕ). x ≡ [] ++ y) (λ x y e. sym e) left after h

at_end : (left after : Option (List ℕ)) → WhereExposed (Takes taken.End) left after → IsAtEnd after
at_end (Some x) (Some y) h = h.1
at_end None None h = tt
at_end (Some x) None h = absurd h
at_end None (Some y) h = absurd h

-- ---- and how it goes on, or ends

module _ {V E : Type 0} (answers : V → Versioned Request → V → Type 0) (stops : E → V → Versioned Request → V → Type 0) (count : ℕ) (feed : Feeding) (source left : Option (List ℕ))
    (first now : V) (g : Going answers count feed source left first now) where
  lost_more : (piece : List ℕ) (after : Option (List ℕ)) → WhereExposed (Takes (taken.Bytes piece)) left after → Removes (g.taken ++ piece) source after
  lost_more piece after h = removes_then g.taken piece source left after g.lost (removes_piece piece left after h)

  lost_same : (after : Option (List ℕ)) → Removes [] left after → Removes g.taken source after
  lost_same after h = subst (λ (l : List ℕ). Removes l source after) (append-nil g.taken) (removes_then g.taken [] source left after g.lost h)

  within : length g.taken ≤ most_stream_bytes
  within = omega (arith, g.few)

  so_open : AnswersEachOpen answers g.taken first now
  so_open = answers_open answers g.taken feed first now g.stands g.waits

  module _ (piece : List ℕ) (after : Option (List ℕ)) (took : WhereExposed (Takes (taken.Bytes piece)) left after) (fits : length piece ≤ count) where
    still_within : length (g.taken ++ piece) ≤ most_stream_bytes
    still_within = omega (arith, g.few, fits, length-append g.taken piece)

    -- what holds of the bytes taken with the piece, wherever they began
    abbrev After : (List ℕ → V → Type 0) → Type 0
    After P = (bytes : List ℕ) (begin : V) → length (bytes ++ piece) < 2 ^ 64 → Stands answers bytes feed begin now → P (bytes ++ piece) begin

    holds : (P : List ℕ → V → Type 0) → After P → P (g.taken ++ piece) first
    holds P f = f g.taken first (omega (arith, still_within)) g.stands

    pub goes_on : (n : ℕ) (feed_after : Feeding) (new : V) → n + length piece ≡ count
        → After (λ bytes begin. Drains answers stops drained.Waits bytes feed_after begin new) → Going answers n feed_after source after first new
    goes_on n feed_after new e f =
        let h = holds (λ bytes begin. Drains answers stops drained.Waits bytes feed_after begin new) f in
        record {
          taken = g.taken ++ piece;
          lost = lost_more piece after took;
          few = omega (arith, g.few, e, length-append g.taken piece);
          stands = h.0;
          waits = h.1;
        }

    pub ends_refused : (place : ℕ) (new : V) → After (λ bytes begin. AnswersEach answers bytes (Refused place) begin new) → ServesInput answers stops (ending.BadFrame place) source after first new
    ends_refused place new f = record {
      taken = g.taken ++ piece;
      lost = lost_more piece after took;
      ends = (still_within, inl (holds (λ bytes begin. AnswersEach answers bytes (Refused place) begin new) f));
    }

    pub ends_unread : (new : V) → After (λ bytes begin. AnswersSome answers bytes begin new) → ServesInput answers stops ending.OutOfMemory source after first new
    ends_unread new f = record {
      taken = g.taken ++ piece;
      lost = lost_more piece after took;
      ends = (still_within, holds (λ bytes begin. AnswersSome answers bytes begin new) f);
    }

    pub ends_stopped : (stop : E) (new : V) → After (λ bytes begin. StopsAfter answers (stops stop) bytes begin new) → ServesInput answers stops (ending.Stopped stop) source after first new
    ends_stopped stop new f = record {
      taken = g.taken ++ piece;
      lost = lost_more piece after took;
      ends = (still_within, holds (λ bytes begin. StopsAfter answers (stops stop) bytes begin new) f);
    }

  -- a byte past the limit
  pub ends_past : (piece : List ℕ) (after : Option (List ℕ)) → WhereExposed (Takes (taken.Bytes piece)) left after
      → length piece ≡ 1 → count ≡ 0 → ServesInput answers stops ending.TooLong source after first now
  ends_past piece after took one none =
      let all : length g.taken ≡ most_stream_bytes = omega (arith, g.few, none) in
      let front : take most_stream_bytes (g.taken ++ piece) ≡ g.taken =
      take-append-le most_stream_bytes g.taken piece (omega (arith, all)) ∙ take_all most_stream_bytes g.taken (omega (arith, all)) in
      record {
        taken = g.taken ++ piece;
        lost = lost_more piece after took;
        ends = (omega (arith, all, one, length-append g.taken piece), subst (λ (l : List ℕ). AnswersEachOpen answers l first now) (sym front) so_open);
      }

  pub ends_failed : (after : Option (List ℕ)) → WhereExposed (Takes taken.Failed) left after → ServesInput answers stops ending.ReadFault source after first now
  ends_failed after h = record { taken = g.taken; lost = lost_same after (removes_failed left after h); ends = (within, so_open) }

  pub ends_unheld : (after : Option (List ℕ)) → WhereExposed (Takes taken.OutOfMemory) left after → ServesInput answers stops ending.OutOfMemory source after first now
  ends_unheld after h = record { taken = g.taken; lost = lost_same after (removes_unheld left after h); ends = (within, answers_some answers g.taken feed first now g.stands) }

  -- the end of the input
  pub ends_whole : (r : Ending E) (after : Option (List ℕ)) → WhereExposed (Takes taken.End) left after → EndsAt r feed → ServesInput answers stops r source after first now
  ends_whole ending.Done after h e = record {
    taken = g.taken;
    lost = lost_same after (removes_end left after h);
    ends = (within, at_end left after h, answers_each answers g.taken feed first now g.stands Whole e);
  }
  ends_whole (ending.BadFrame place) after h e = record {
    taken = g.taken;
    lost = lost_same after (removes_end left after h);
    ends = (within, inr (at_end left after h, answers_each answers g.taken feed first now g.stands (Rest place) (e.0, e.1, g.waits)));
  }
  ends_whole ending.ReadFault after h e = absurd e
  ends_whole ending.TooLong after h e = absurd e
  ends_whole ending.OutOfMemory after h e = absurd e
  ends_whole (ending.Stopped stop) after h e = absurd e

-- where it ends there, the counts of faults stay
pub counts_whole : {F E : Type 0} (counts : E → F → F → Type 0) (r : Ending E) (feed : Feeding) (old new : F) → EndsAt r feed → new ≡ old → CountsEnding counts r old new
counts_whole counts ending.Done feed old new e n = n
counts_whole counts (ending.BadFrame place) feed old new e n = n
counts_whole counts ending.ReadFault feed old new e n = absurd e
counts_whole counts ending.TooLong feed old new e n = absurd e
counts_whole counts ending.OutOfMemory feed old new e n = absurd e
counts_whole counts (ending.Stopped stop) feed old new e n = absurd e
