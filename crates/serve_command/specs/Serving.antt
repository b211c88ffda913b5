-- The command `serve`: what it puts of what it took of its input, by how it ended.
use Rattle.std.specs.Prelude.{◌≡◌, ◌⊎◌, ℕ, ◌+◌, ◌≤◌, ◌<◌, List, [], ◌∷◌, ◌++◌, length, take, Option}
use Rattle.std.specs.Io.KnownBytes.{IsAtEnd}
use Rattle.ae_edge.specs.Devices.{Adds, AddsPrefix, IsPrefix, Removes}
use Rattle.wire_messages.specs.declared.requests.Request.{Request}
use Rattle.wire_payloads.specs.declared.versioned.Versioned.{Versioned}
use Rattle.wire_frames.specs.Frames.{End, Whole, Refused, Rest}
use Rattle.server_core.specs.Laws.{AreServedSerially}
use Rattle.server_core.specs.Serve.{State, empty_state}
use Rattle.serve_command.specs.ServeAll.{ServeAll, answer_frames, messages_of, reply_frames, state_after}
use Rattle.serve_command.specs.declared.commands.Served.{Served}
use Rattle.serve_command.specs.declared.commands.Served.TheVariants as served
pub use Rattle.ae_base.specs.Limits.{most_stream_bytes}
pub use Rattle.serve_command.specs.Requests.{Begins, IsOpen, IsProper}

-- ---- how far it came

-- the bytes taken end so, and the frames of all replies to their requests were put
pub record AnswersAll (first : State) (taken : List ℕ) (end : End) (old new : Option (List ℕ)) : Type 0 where
  pub frames : List ℕ
  pub after : State
  pub serves : ServeAll first taken end frames after
  pub put : Adds frames old new

-- the frames of all replies to the first requests of the bytes taken were put
pub record AnswersFirst (first : State) (taken : List ℕ) (old new : Option (List ℕ)) : Type 0 where
  pub answered : List (Versioned Request)
  pub others : List ℕ
  pub begins : Begins taken answered others
  pub put : Adds (reply_frames first answered) old new

-- and then, of the replies to the next request, a front of their frames
pub record BreaksOff (first : State) (taken : List ℕ) (old new : Option (List ℕ)) : Type 0 where
  pub answered : List (Versioned Request)
  pub next : Versioned Request
  pub others : List ℕ
  pub begins : Begins taken (answered ++ next ∷ []) others
  pub front : List ℕ
  pub of_next : IsPrefix front (answer_frames (state_after first answered) next)
  pub put : Adds (reply_frames first answered ++ front) old new

-- they end after a frame, or inside one
abbrev pub AnswersOpen : State → List ℕ → Option (List ℕ) → Option (List ℕ) → Type 0
AnswersOpen first taken old new = (end : End) × IsOpen end × AnswersAll first taken end old new

-- ---- how it ended

-- A frame that is refused ends it at once, a fault and out of memory too; else the input is taken to its end, or to one byte
-- past the limit, when all requests within the limit are answered, from the first state on.
abbrev pub Ends : State → Served → List ℕ → Option (List ℕ) → Option (List ℕ) → Option (List ℕ) → Type 0
Ends first served.Done taken left old new = (length taken ≤ most_stream_bytes) × IsAtEnd left × AnswersAll first taken Whole old new
Ends first (served.BadFrame place) taken left old new =
    (length taken ≤ most_stream_bytes) × (AnswersAll first taken (Refused place) old new ⊎ (IsAtEnd left × AnswersAll first taken (Rest place) old new))
Ends first served.TooLong taken left old new = (length taken ≡ most_stream_bytes + 1) × AnswersOpen first (take most_stream_bytes taken) old new
Ends first served.ReadFault taken left old new = (length taken ≤ most_stream_bytes) × AnswersOpen first taken old new
Ends first served.WriteFault taken left old new = (length taken ≤ most_stream_bytes) × BreaksOff first taken old new
Ends first served.OutOfMemory taken left old new = (length taken ≤ most_stream_bytes) × (AnswersFirst first taken old new ⊎ BreaksOff first taken old new)

-- so much was taken of the input, and it ended so; whichever of its requests were answered, transactions took effect one after
-- another, each whole at its COMMIT
pub record ServesStream (ended : Served) (left left_after out out_after : Option (List ℕ)) : Type 0 where
  pub taken : List ℕ
  pub lost : Removes taken left left_after
  pub ends : Ends empty_state ended taken left_after out out_after
  pub serial : (requests : List (Versioned Request)) (others : List ℕ) → Begins taken requests others → AreServedSerially (messages_of requests)

-- ---- over a whole input

-- Of an input whose bytes within the limit end so, and have these frames of replies, all were put; of a fault or out of
-- memory, a front.
abbrev pub IsServed : Served → List ℕ → End → List ℕ → Option (List ℕ) → Option (List ℕ) → Type 0
IsServed served.Done bytes end frames old new = (length bytes ≤ most_stream_bytes) × (end ≡ Whole) × Adds frames old new
IsServed (served.BadFrame place) bytes end frames old new =
    ((end ≡ Refused place) ⊎ ((length bytes ≤ most_stream_bytes) × (end ≡ Rest place))) × Adds frames old new
IsServed served.TooLong bytes end frames old new = (most_stream_bytes < length bytes) × IsOpen end × Adds frames old new
IsServed served.ReadFault bytes end frames old new = AddsPrefix frames old new
IsServed served.WriteFault bytes end frames old new = AddsPrefix frames old new
IsServed served.OutOfMemory bytes end frames old new = AddsPrefix frames old new
