-- A script's bytes: its steps, or why it has none, and how many bytes are taken to know.
use Rattle.std.specs.Prelude.{◌≡◌, ℕ, ◌+◌, ◌≤◌, ◌<◌, List, [], length, Result, Ok, Err}
use Rattle.std.specs.List.{All}
use Rattle.ae_edge.specs.Devices.{Rose, Stays}
use Rattle.ae_edge.specs.Streams.{HasTaken}
use Rattle.ae_edge.specs.declared.streams.ReadError.{ReadError}
use Rattle.ae_edge.specs.declared.streams.ReadError.TheVariants as read
use Rattle.script_lang.specs.Limits.{IsProperStep, IsWithinLimits}
use Rattle.script_lang.specs.Script.{steps_of}
use Rattle.script_lang.specs.declared.steps.Step.{Step}
use Rattle.script_source.specs.declared.Unread.{Unread}
use Rattle.script_source.specs.declared.Unread.TheVariants as unread
pub use Rattle.ae_base.specs.Limits.{most_script_bytes}

-- the bytes are a script of these steps
pub record IsScript (bytes : List ℕ) (steps : List Step) : Type 0 where
  pub within : length bytes ≤ most_script_bytes
  pub read : steps_of bytes ≡ Ok steps

-- each is of one of the sessions, with few parameters, whose names differ and whose values are proper
pub record AreScriptSteps (bytes : List ℕ) (steps : List Step) : Type 0 where
  pub script : IsScript bytes steps
  pub limits : All IsWithinLimits steps
  pub proper : All IsProperStep steps

-- why it has none whose source wasn't read to its end
abbrev pub unread_of : ReadError → Unread
unread_of read.TooLong = unread.TooLong
unread_of read.Failed = unread.ReadFault
unread_of read.OutOfMemory = unread.OutOfMemory

-- why bytes have no steps
abbrev pub HasNoSteps : Unread → List ℕ → Type 0
HasNoSteps unread.ReadFault bytes = Unit {0}
HasNoSteps unread.TooLong bytes = most_script_bytes < length bytes
HasNoSteps (unread.BadLine line) bytes = (length bytes ≤ most_script_bytes) × (steps_of bytes ≡ Err line)
HasNoSteps unread.OutOfMemory bytes = Unit {0}

-- the steps of bytes, or why they have none
abbrev pub ReadsScript : Result (List Step) Unread → List ℕ → Type 0
ReadsScript (Ok steps) bytes = AreScriptSteps bytes steps
ReadsScript (Err why) bytes = HasNoSteps why bytes

-- what was taken of bytes that have no steps
abbrev pub TakesUnread : Unread → List ℕ → List ℕ → Type 0
TakesUnread unread.ReadFault bytes left = HasTaken (λ n. n ≤ most_script_bytes) bytes left
TakesUnread unread.TooLong bytes left = HasTaken (λ n. n ≡ most_script_bytes + 1) bytes left
TakesUnread (unread.BadLine line) bytes left = left ≡ []
TakesUnread unread.OutOfMemory bytes left = HasTaken (λ n. n ≤ most_script_bytes + 1) bytes left

-- what was taken of a script's bytes: all of them, unless they weren't read
abbrev pub TakesScript : {A : Type 0} → Result A Unread → List ℕ → List ℕ → Type 0
TakesScript (Ok steps) bytes left = left ≡ []
TakesScript (Err why) bytes left = TakesUnread why bytes left

-- the source's count of faults stays, but where a call of it failed
abbrev pub CountsUnread : Unread → ℕ → ℕ → Type 0
CountsUnread unread.ReadFault = Rose
CountsUnread unread.TooLong = Stays
CountsUnread (unread.BadLine line) = Stays
CountsUnread unread.OutOfMemory = Stays

abbrev pub CountsScript : {A : Type 0} → Result A Unread → ℕ → ℕ → Type 0
CountsScript (Ok steps) = Stays
CountsScript (Err why) = CountsUnread why
