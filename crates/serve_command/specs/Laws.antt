-- Streams of requests that are renamed one by one are served alike.
use Rattle.std.specs.Prelude.{◌≡◌, ℕ, List, []}
use Rattle.std.specs.List.{AllZip}
use Rattle.renaming_laws.specs.Renaming.{IsRenaming}
use Rattle.scalar.specs.Classes.{Class, Pairing, Entry, Listing}
use Rattle.ae_base.specs.Atoms.{Atom}
use Rattle.frame_laws.specs.Correspond.{PayloadsCorrespond}
use Rattle.serve_command.specs.Correspond.{answers_to}
use Rattle.serve_command.specs.ServeAll.{ServeAll, messages_of, reply_frames, requests_of}
use Rattle.server_core.specs.Correspond.{RequestsCorrespond, RepliesCorrespond, StatesCorrespond}
use Rattle.server_core.specs.Serve.{State, empty_state, serve_all}
use Rattle.wire_frames.specs.Frames.{Placed, Whole}
use Rattle.wire_messages.specs.declared.replies.Reply.{Reply}
use Rattle.wire_messages.specs.declared.requests.Request.{Request}
use Rattle.wire_payloads.specs.declared.versioned.Versioned.{Versioned}

-- of one version, and renamed
abbrev pub PlacedCorrespond : Pairing → Placed (Versioned Request) → Placed (Versioned Request) → Type 0
PlacedCorrespond R p q = (p.message.version ≡ q.message.version) × RequestsCorrespond R p.message.message q.message.message

-- the replies to some requests, served one after another from the empty state on
abbrev pub replies_to : List (Versioned Request) → List Reply
replies_to requests = (serve_all empty_state (messages_of requests)).0

-- The frames are those of the replies to some requests and to others. These replies correspond, and so does what their frames
-- carry, answer by answer: where rows share a frame, those that correspond share one, since frames are made by lengths alone,
-- which a renaming keeps.
pub record FramesCorrespond (R : Class → Atom → Atom → Type 0) (requests seconds : List (Versioned Request)) (frames others : List ℕ) : Type 0 where
  pub left : frames ≡ reply_frames empty_state requests
  pub right : others ≡ reply_frames empty_state seconds
  pub correspond : RepliesCorrespond R [] (replies_to requests) (replies_to seconds)
  pub carried : AllZip (PayloadsCorrespond R []) (answers_to empty_state requests) (answers_to empty_state seconds)

-- two streams of whole frames, whose requests are renamed one by one, are served with renamed replies in frames that carry them
-- alike, and leave renamed states
abbrev pub StreamsAreServedAlike : Type 0
StreamsAreServedAlike = (entries : List Entry) → IsRenaming entries
    → (bytes others frames more : List ℕ) (after later : State) (left : ServeAll empty_state bytes Whole frames after) (right : ServeAll empty_state others Whole more later)
    → AllZip (PlacedCorrespond (Listing entries)) left.requests right.requests
    → FramesCorrespond (Listing entries) (requests_of left.requests) (requests_of right.requests) frames more × StatesCorrespond (Listing entries) after later
