-- The server answers requests.
use Rattle.std.specs.Prelude.{◌≡◌, ℕ, List, Option}
use Rattle.ae_edge.specs.Devices.{Adds, AddsPrefix}
use Rattle.ae_edge.specs.declared.streams.WriteError.{WriteError}
use Rattle.ae_edge.specs.declared.streams.WriteError.TheVariants as write
use Rattle.wire_messages.specs.declared.requests.Request.{Request}
use Rattle.wire_payloads.specs.declared.versioned.Versioned.{Versioned}
use Rattle.server_core.specs.Serve.{State, serve}
use Rattle.serve_command.specs.ServeAll.{answer_frames}
use Rattle.serve_command.specs.declared.commands.Served.{Served}
use Rattle.serve_command.specs.declared.commands.Served.TheVariants as served
use Rattle.serve_command.specs.declared.inputs.Ending.{Ending}
use Rattle.serve_command.specs.declared.inputs.Ending.TheVariants as ending

-- the server's state, and what is told of the output
pub record ServerView : Type 0 where
  pub state : State
  pub out : Option (List ℕ)

-- it served a request, and put the frames of all replies
abbrev pub AnswersRequest : ServerView → Versioned Request → ServerView → Type 0
AnswersRequest old asked new = (new.state ≡ (serve old.state asked.message).after) × Adds (answer_frames old.state asked) old.out new.out

-- or a prefix of them
abbrev pub StopsRequest : WriteError → ServerView → Versioned Request → ServerView → Type 0
StopsRequest error old asked new = AddsPrefix (answer_frames old.state asked) old.out new.out

-- how the command ended
abbrev pub served_by : Ending WriteError → Served
served_by ending.Done = served.Done
served_by ending.ReadFault = served.ReadFault
served_by ending.TooLong = served.TooLong
served_by (ending.BadFrame place) = served.BadFrame place
served_by ending.OutOfMemory = served.OutOfMemory
served_by (ending.Stopped write.Failed) = served.WriteFault
served_by (ending.Stopped write.OutOfMemory) = served.OutOfMemory
