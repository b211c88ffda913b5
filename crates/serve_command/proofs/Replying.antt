-- Requests that are served one after another, and the frames of their replies.
use Rattle.std.proofs.Common.{◌≡◌, ℕ, List, [], ◌∷◌, ◌++◌, length, Option, Some, None, refl, sym, ap, ◌∙◌, append_assoc, append-nil}
use Rattle.std.specs.Prelude.{flat_map}
use Rattle.ae_edge.specs.Devices.{Adds, AddsPrefix, IsPrefix}
use Rattle.ae_edge.proofs.Interface.{adds_then, front_none}
use Rattle.wire_messages.specs.declared.requests.Request.{Request}
use Rattle.wire_payloads.specs.declared.versioned.Versioned.{Versioned}
use Rattle.wire_encoding.specs.Spelling.{SpellsRequest, asked_frame}
use Rattle.wire_frames.specs.Frames.{End, EndsSo, is_request_head, placed_from}
use Rattle.server_core.specs.Serve.{State, serve}
use Rattle.serve_command.specs.Requests.{Begins}
use Rattle.serve_command.specs.ServeAll.{answer_frames, reply_frames, state_after}
use Rattle.serve_command.specs.Serving.{AnswersAll, BreaksOff}
use Rattle.serve_command.proofs.Beginning.{requests_placed, reads_so}

-- some requests, and then others
state_then : (first : State) (requests others : List (Versioned Request)) → state_after first (requests ++ others) ≡ state_after (state_after first requests) others
state_then first [] others = refl
state_then first (r ∷ requests) others = state_then (serve first r.message).after requests others

frames_then : (first : State) (requests others : List (Versioned Request)) → reply_frames first (requests ++ others) ≡ reply_frames first requests ++ reply_frames (state_after first requests) others
frames_then first [] others = refl
frames_then first (r ∷ requests) others =
    let after = (serve first r.message).after in
    ap (λ (l : List ℕ). answer_frames first r ++ l) (frames_then after requests others)
    ∙ sym (append_assoc (answer_frames first r) (reply_frames after requests) (reply_frames (state_after after requests) others))

-- one request more
pub state_more : (first : State) (requests : List (Versioned Request)) (r : Versioned Request) → state_after first (requests ++ r ∷ []) ≡ (serve (state_after first requests) r.message).after
state_more first requests r = state_then first requests (r ∷ [])

pub frames_more : (first : State) (requests : List (Versioned Request)) (r : Versioned Request)
    → reply_frames first (requests ++ r ∷ []) ≡ reply_frames first requests ++ answer_frames (state_after first requests) r
frames_more first requests r =
    frames_then first requests (r ∷ []) ∙ ap (λ (l : List ℕ). reply_frames first requests ++ l) (append-nil (answer_frames (state_after first requests) r))

-- the frames of the replies to the first requests are a front of those to all
pub frames_front : (first : State) (requests others : List (Versioned Request)) → IsPrefix (reply_frames first requests) (reply_frames first (requests ++ others))
frames_front first requests others = record { rest = reply_frames (state_after first requests) others; is = frames_then first requests others }

-- ---- the frames of the replies were put

-- of what was put, the front is told
a_front : (xs : List ℕ) (old new : Option (List ℕ)) → AddsPrefix xs old new → (front : List ℕ) × IsPrefix front xs × Adds front old new
a_front xs (Some old) (Some new) h = (h.front, h.of_it, h.grew)
a_front xs None None h = ([], front_none xs, tt)
a_front xs (Some old) None h = absurd h
a_front xs None (Some new) h = absurd h

module _ (start : State) (taken : List ℕ) (requests : List (Versioned Request)) (old now : Option (List ℕ)) (put : Adds (reply_frames start requests) old now) where
  -- to all requests of the bytes taken, which end so
  pub answers_all : (others : List ℕ) (end : End) → Begins taken requests others → EndsSo is_request_head SpellsRequest (length (flat_map asked_frame requests)) others end
      → AnswersAll start taken end old now
  answers_all others end begins ends = record {
    frames = reply_frames start requests;
    after = state_after start requests;
    serves = record {
      requests = placed_from asked_frame 0 requests;
      read = reads_so taken requests others end begins ends;
      replied = ap (reply_frames start) (sym (requests_placed requests));
      left = ap (state_after start) (sym (requests_placed requests));
    };
    put = put;
  }

  -- and of the next one a prefix of them
  pub breaks_off : (next : Versioned Request) (others : List ℕ) (new : Option (List ℕ)) → Begins taken (requests ++ next ∷ []) others → AddsPrefix (answer_frames (state_after start requests) next) now new
      → BreaksOff start taken old new
  breaks_off next others new begins part =
      let front = a_front (answer_frames (state_after start requests) next) now new part in
      record {
        answered = requests;
        next = next;
        others = others;
        begins = begins;
        front = front.0;
        of_next = front.1;
        put = adds_then (reply_frames start requests) front.0 old now new put front.2;
      }
