-- An input whose requests are answered: what was taken of it and what was answered, by how it ended.
use Rattle.std.specs.Prelude.{◌≡◌, ◌⊎◌, ℕ, ◌+◌, ◌<◌, ◌≤◌, List, [], length, take, Option}
use Rattle.std.specs.Io.KnownBytes.{IsAtEnd}
use Rattle.ae_base.specs.Limits.{most_stream_bytes}
use Rattle.ae_edge.specs.Devices.{Removes}
use Rattle.wire_messages.specs.declared.requests.Request.{Request}
use Rattle.wire_payloads.specs.declared.versioned.Versioned.{Versioned}
use Rattle.wire_frames.specs.Frames.{Whole, Refused, Rest}
use Rattle.frame_feed.specs.Feeding.{Feeding}
use Rattle.serve_command.specs.Requests.{AnswersEach, AnswersEachOpen, AnswersSome, StopsAfter}
use Rattle.serve_command.specs.declared.inputs.Ending.{Ending}
use Rattle.serve_command.specs.declared.inputs.Ending.TheVariants as ending

-- at the end of the input nothing is held, or less than a frame, from this place on
abbrev pub EndsAt : {E : Type 0} → Ending E → Feeding → Type 0
EndsAt ending.Done feed = feed.held ≡ []
EndsAt (ending.BadFrame place) feed = (place ≡ feed.at) × (0 < length feed.held)
EndsAt other feed = ⊥

-- A frame that is refused ends it at once, and so does a request that isn't answered whole, a fault or out of memory; else the
-- input is taken to its end, or to one byte past the limit, when all requests within the limit are answered.
abbrev pub EndsAs : {V E : Type 0} → (V → Versioned Request → V → Type 0) → (E → V → Versioned Request → V → Type 0) → Ending E → List ℕ → Option (List ℕ) → V → V → Type 0
EndsAs answers stops ending.Done taken left first last = (length taken ≤ most_stream_bytes) × IsAtEnd left × AnswersEach answers taken Whole first last
EndsAs answers stops (ending.BadFrame place) taken left first last =
    (length taken ≤ most_stream_bytes) × (AnswersEach answers taken (Refused place) first last ⊎ (IsAtEnd left × AnswersEach answers taken (Rest place) first last))
EndsAs answers stops ending.TooLong taken left first last = (length taken ≡ most_stream_bytes + 1) × AnswersEachOpen answers (take most_stream_bytes taken) first last
EndsAs answers stops ending.ReadFault taken left first last = (length taken ≤ most_stream_bytes) × AnswersEachOpen answers taken first last
EndsAs answers stops ending.OutOfMemory taken left first last = (length taken ≤ most_stream_bytes) × AnswersSome answers taken first last
EndsAs answers stops (ending.Stopped stop) taken left first last = (length taken ≤ most_stream_bytes) × StopsAfter answers (stops stop) taken first last

-- so much was taken of the input, and it ended so
pub record ServesInput {V E : Type 0} (answers : V → Versioned Request → V → Type 0) (stops : E → V → Versioned Request → V → Type 0) (how : Ending E) (source left : Option (List ℕ))
    (first last : V) : Type 0 where
  pub taken : List ℕ
  pub lost : Removes taken source left
  pub ends : EndsAs answers stops how taken left first last

-- the counts of faults stay, but where a request wasn't answered whole
abbrev pub CountsEnding : {F E : Type 0} → (E → F → F → Type 0) → Ending E → F → F → Type 0
CountsEnding counts (ending.Stopped stop) old new = counts stop old new
CountsEnding counts other old new = new ≡ old
