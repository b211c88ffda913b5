-- Requests of an input that are answered and recorded: what is put for them, and what a crash leaves of their records.
use Rattle.std.specs.Prelude.{◌≡◌, ◌⊎◌, ℕ, ◌+◌, ◌≤◌, ◌<◌, List, [], ◌∷◌, ◌++◌, length, take, Option}
use Rattle.ae_edge.specs.Devices.{AddsPrefix, Removes}
use Rattle.journal_core.specs.Appends.{most_bytes}
use Rattle.journal_core.specs.Journals.{place_behind}
use Rattle.server_core.specs.Laws.{AreServedSeriallyFrom}
use Rattle.server_core.specs.Serve.{State}
use Rattle.server_core.specs.States.{any_cell}
use Rattle.recording_laws.specs.Recorded.{nothing_held}
use Rattle.serve_command.specs.ServeAll.{messages_of, reply_frames}
use Rattle.serve_command.specs.Serving.{Begins, AnswersFirst, Ends, most_stream_bytes}
use Rattle.serve_command.specs.declared.commands.Served.TheVariants as served
use Rattle.transactions.specs.WellKept.{HasNoTransactions, IsStore}
use Rattle.wire_frames.specs.Frames.{IsNotYet, IsRefused, is_request_head}
use Rattle.wire_encoding.specs.Spelling.{SpellsRequest}
use Rattle.journal_command.specs.Keeping.{Asked, entries_of, frames_in, records_of}
use Rattle.journal_command.specs.Records.{HaveRoom, TriesEntries}
use Rattle.journal_command.specs.Stopping.{Outside}
use Rattle.journal_command.specs.declared.endings.Ended.{Ended}
use Rattle.journal_command.specs.declared.endings.Ended.TheVariants as ended

-- Replies were put to the requests that were answered, to the last of them perhaps not all; and the next one was tried, if any.
-- A crash leaves a front of the records of all of these, and now those of the answered ones at least, each of which had room.
pub record HasKept (start : State) (taken : List ℕ) (old new : Outside) : Type 0 where
  pub answered : List Asked
  pub tried : List Asked
  pub few : length tried ≤ 1
  pub others : List ℕ
  pub begins : Begins taken (answered ++ tried) others
  pub put : AddsPrefix (reply_frames start answered) old.out new.out
  pub kept : TriesEntries old.gate (entries_of (records_of start nothing_held answered)) (entries_of (records_of start nothing_held (answered ++ tried))) old.disk new.disk
  pub room : HaveRoom old.gate (entries_of (records_of start nothing_held answered))

-- the record of the one that was tried had room too, if it has one
pub record HasRoomFor (start : State) (taken : List ℕ) (old new : Outside) : Type 0 where
  pub kept : HasKept start taken old new
  pub room : HaveRoom old.gate (entries_of (records_of start nothing_held (kept.answered ++ kept.tried)))

-- the file has no room for the record of the one that was tried
pub record HasNoRoomFor (start : State) (taken : List ℕ) (old new : Outside) : Type 0 where
  pub kept : HasKept start taken old new
  pub last : List Asked
  pub is : records_of start nothing_held (kept.answered ++ kept.tried) ≡ records_of start nothing_held kept.answered ++ last ∷ []
  pub full : most_bytes < old.gate + place_behind (entries_of (records_of start nothing_held kept.answered)) + 10 + length (frames_in last)

-- These are all requests of some bytes: less than a frame stands behind them, or what is refused.
pub record AreAllOf (bytes : List ℕ) (requests : List Asked) : Type 0 where
  pub others : List ℕ
  pub begins : Begins bytes requests others
  pub ends : IsNotYet is_request_head others ⊎ IsRefused is_request_head SpellsRequest others

-- all requests of some of the bytes taken were answered, and no other one was tried
pub record HasKeptAll (start : State) (bytes taken : List ℕ) (old new : Outside) : Type 0 where
  pub kept : HasRoomFor start taken old new
  pub all : AreAllOf bytes kept.kept.answered
  pub none : kept.kept.tried ≡ []

-- ---- by how it ended

-- what was put of the bytes taken, from a first state on: as without a journal; and where the disk fails or the file is full, the
-- frames of all replies to the requests before
abbrev pub PutsSo : Ended → State → List ℕ → Option (List ℕ) → Option (List ℕ) → Option (List ℕ) → Type 0
PutsSo ended.Done start taken left old new = Ends start served.Done taken left old new
PutsSo ended.ReadFault start taken left old new = Ends start served.ReadFault taken left old new
PutsSo ended.WriteFault start taken left old new = Ends start served.WriteFault taken left old new
PutsSo ended.OutOfMemory start taken left old new = Ends start served.OutOfMemory taken left old new
PutsSo ended.TooLong start taken left old new = Ends start served.TooLong taken left old new
PutsSo (ended.BadFrame place) start taken left old new = Ends start (served.BadFrame place) taken left old new
PutsSo ended.DiskFault start taken left old new = (length taken ≤ most_stream_bytes) × AnswersFirst start taken old new
PutsSo ended.JournalFull start taken left old new = (length taken ≤ most_stream_bytes) × AnswersFirst start taken old new
PutsSo (ended.Damaged place) start taken left old new = ⊥

-- what is kept of them: at an end to which all requests within the limit were answered, the records of all these
abbrev pub KeepsSo : Ended → State → List ℕ → Outside → Outside → Type 0
KeepsSo ended.Done start taken old new = HasKeptAll start taken taken old new
KeepsSo ended.ReadFault start taken old new = HasKeptAll start taken taken old new
KeepsSo ended.TooLong start taken old new = HasKeptAll start (take most_stream_bytes taken) taken old new
KeepsSo (ended.BadFrame place) start taken old new = HasKeptAll start taken taken old new
KeepsSo ended.JournalFull start taken old new = HasNoRoomFor start taken old new
KeepsSo ended.OutOfMemory start taken old new = HasKept start taken old new
KeepsSo other start taken old new = HasRoomFor start taken old new

-- So much was taken of the input, from a first state on. If it can stand and no transaction was open there, then whichever of its
-- requests were answered, transactions took effect one after another, each whole at its COMMIT.
pub record ServesPieces (how : Ended) (start : State) (source left : Option (List ℕ)) (old new : Outside) : Type 0 where
  pub taken : List ℕ
  pub lost : Removes taken source left
  pub puts : PutsSo how start taken left old.out new.out
  pub keeps : KeepsSo how start taken old new
  pub serial : IsStore any_cell start → HasNoTransactions start → (requests : List Asked) (others : List ℕ) → Begins taken requests others → AreServedSeriallyFrom start (messages_of requests)
