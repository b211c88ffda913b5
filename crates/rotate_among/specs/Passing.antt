-- What passes the tap with a request, and the replies that wait then.
use Rattle.std.specs.Prelude.{◌≡◌, ℕ, List, ◌++◌, Result, Ok, Err}
use Rattle.ae_base.specs.declared.frames.FrameVersion.{FrameVersion}
use Rattle.ae_edge.specs.Devices.{Adds, AddsPrefix, Calls, Device, Stays}
use Rattle.ae_edge.specs.Streams.{CountsWrite}
use Rattle.ae_edge.specs.declared.streams.WriteError.{WriteError}
use Rattle.wire_messages.specs.declared.replies.Reply.{Reply}
use Rattle.wire_messages.specs.declared.requests.Request.{Request}
use Rattle.wire_encoding.specs.Packing.{packed}
use Rattle.wire_encoding.specs.Spelling.{request_frame}
use Rattle.script_run.specs.Shares.{Queue, with_answer}

-- all its frames, and the replies wait after the others; or a prefix of the frames
abbrev pub Passes : Result (Unit {0}) WriteError → FrameVersion → Request → List Reply → (old new : Device (List ℕ)) → Queue → Queue → Type 0
Passes (Ok o) version request replies old new q r =
    Calls (Adds (request_frame version request ++ packed version replies)) Stays old new × (r ≡ with_answer version q replies)
Passes (Err e) version request replies old new q r = Calls (AddsPrefix (request_frame version request ++ packed version replies)) (CountsWrite e) old new
