-- A server whose changes are kept in a journal: what it does with a request.
use Rattle.std.specs.Prelude.{◌≡◌, ◌⊎◌, ℕ, ◌+◌, List, [], map, false, Option, IfSome, option_to_list, Result, Ok, Err}
use Rattle.ae_edge.specs.Devices.{Adds}
use Rattle.disk.specs.Moments.{Moments}
use Rattle.journal_core.specs.Appends.{IsMounted}
use Rattle.journal_core.specs.Journals.{place_behind}
use Rattle.journal_core.specs.States.{JournalState}
use Rattle.journal_core.specs.declared.journal.Appended.{Appended}
use Rattle.journal_core.specs.declared.journal.Appended.TheVariants as appended
use Rattle.serve_command.specs.ServeAll.{answer_frames}
use Rattle.server_core.specs.Serve.{State, serve}
use Rattle.wire_messages.specs.declared.replies.Reply.{Reply}
use Rattle.statement_analysis.specs.Sorts.{sort_of}
use Rattle.statement_analysis.specs.declared.sorts.Sort.{Sort}
use Rattle.statement_analysis.specs.declared.sorts.Sort.TheVariants as sorts
use Rattle.wire_messages.specs.declared.requests.Request.{Request}
use Rattle.wire_messages.specs.declared.requests.Request.TheVariants.{Describe, Execute}
use Rattle.journal_command.specs.Keeping.{Asked, HeldFrames, IsHolding, entries_of, frames_of, held_behind, keeping}
use Rattle.journal_command.specs.Records.{AddsEntries, TriesEntries, HaveRoom, HasNoRoom}
use Rattle.journal_command.specs.Stopping.{Outside, AreThere, StopsBy, outside}
use Rattle.journal_command.specs.declared.endings.Stop.{Stop}

-- the server's state, what is held of its sessions' transactions, and the journal
pub record DurableState : Type 0 where
  pub state : State
  pub held : List HeldFrames
  pub journal : JournalState

-- a further record can be added, and what is held can be one
pub record IsSound (durable : DurableState) (disk : Option Moments) : Type 0 where
  pub ready : durable.journal.failed ≡ false
  pub mounted : IfSome disk (IsMounted durable.journal.gate)
  pub holds : IsHolding durable.held

-- ---- one request is served

-- a SELECT, or no statement, that a session asks to execute
abbrev pub IsReadOf : ℕ → Request → Type 0
IsReadOf session (Describe other text declarations) = ⊥
IsReadOf session (Execute other version text params) = (session ≡ other) × ((sort_of text ≡ sorts.Reads) ⊎ (sort_of text ≡ sorts.NoStatement))

-- a statement of a sort that a session asks to execute
abbrev pub IsStatementOf : ℕ → Sort → Request → Type 0
IsStatementOf session kind (Describe other text declarations) = ⊥
IsStatementOf session kind (Execute other version text params) = (session ≡ other) × (kind ≡ sort_of text)

-- whatever requests are held: the replies, the record, and what is held after it
pub record IsServed (given : List Reply) (entry : Option (List ℕ)) (asked : Asked) (old new : DurableState) : Type 0 where
  pub replies : given ≡ (serve old.state asked.message).replies
  pub after : new.state ≡ (serve old.state asked.message).after
  pub kept : (held : List (List Asked)) → old.held ≡ map frames_of held
      → (option_to_list entry ≡ entries_of (keeping old.state held asked).records) × (new.held ≡ map frames_of (held_behind old.state held asked))

-- ---- its record is added

abbrev pub AppendsEntry : Appended → ℕ → ℕ → List (List ℕ) → Option Moments → Option Moments → Type 0
AppendsEntry appended.Done gate after more old new = AddsEntries gate after more old new × (after ≡ gate + place_behind more) × HaveRoom gate more
AppendsEntry appended.DiskFault gate after more old new = TriesEntries gate [] more old new × HaveRoom gate more
AppendsEntry appended.OutOfMemory gate after more old new = TriesEntries gate [] more old new
AppendsEntry appended.JournalFull gate after more old new = TriesEntries gate [] more old new × HasNoRoom gate more

-- ---- and it is answered

-- of the frames of its replies, and of the bytes of its records
abbrev pub PutsBy : {A : Type 0} → Result A Stop → List ℕ → List (List ℕ) → Outside → Outside → Type 0
PutsBy (Ok x) frames more old new = AreThere more old new × Adds frames old.out new.out
PutsBy (Err stop) frames more old new = StopsBy stop frames more old new

-- its records are on the disk, and all frames of its replies were put
pub record AnswersWhole (all : List (List Asked)) (asked : Asked) (old new : DurableState) (before after : Outside) : Type 0 where
  pub state : new.state ≡ (serve old.state asked.message).after
  pub held : new.held ≡ map frames_of (held_behind old.state all asked)
  pub there : AreThere (entries_of (keeping old.state all asked).records) before after
  pub put : Adds (answer_frames old.state asked) before.out after.out

-- with what is told of the disk and of the output
pub record DurableView : Type 0 where
  pub durable : DurableState
  pub disk : Option Moments
  pub out : Option (List ℕ)

abbrev pub outside_of : DurableView → Outside
outside_of view = outside view.durable.journal.gate view.disk view.out

-- whatever requests are held: the request was answered whole
abbrev pub AnswersRequest : DurableView → Asked → DurableView → Type 0
AnswersRequest old asked new = (held : List (List Asked)) → old.durable.held ≡ map frames_of held → AnswersWhole held asked old.durable new.durable (outside_of old) (outside_of new)

-- or it wasn't
abbrev pub StopsRequest : Stop → DurableView → Asked → DurableView → Type 0
StopsRequest stop old asked new = (held : List (List Asked)) → old.durable.held ≡ map frames_of held
    → StopsBy stop (answer_frames old.durable.state asked) (entries_of (keeping old.durable.state held asked).records) (outside_of old) (outside_of new)
