-- The result of a batch when its description is asked, and what the server answers to a definition.
use Rattle.std.specs.Prelude.{◌≡◌, ◌==◌, ℕ, List, [], ◌∷◌, Some, None, Result, Ok, Err, Bool, true, false}
use Rattle.ae_base.specs.Faults.{code_of}
use Rattle.ae_base.specs.declared.batches.Batch.{Batch}
use Rattle.wire_messages.specs.Messages.{Description}
use Rattle.wire_messages.specs.declared.replies.Reply.{Reply}
use Rattle.wire_messages.specs.declared.requests.Request.{Request}
use Rattle.wire_messages.specs.declared.requests.Request.TheVariants as request
use Rattle.statement_analysis.specs.Describing.{describe}
use Rattle.server_core.specs.Serve.{State, catalog_of, described}
use Rattle.conversation.specs.Batches.{why_unfit}
use Rattle.conversation.specs.Pending.{Pending, uses_of}
use Rattle.conversation.specs.Sessions as held
use Rattle.conversation.specs.Sessions.{described_params}
use Rattle.conversation.specs.declared.answers.DescribeAnswer.{DescribeAnswer}
use Rattle.conversation.specs.declared.answers.DescribeAnswer.TheVariants as answer
use Rattle.conversation.specs.declared.answers.ExecuteAnswer.{ExecuteAnswer}
use Rattle.conversation.specs.declared.answers.ExecuteAnswer.TheVariants as executed
use Rattle.conversation.specs.declared.faults.Halt.{Halt}
use Rattle.conversation.specs.declared.faults.Halt.TheVariants as halt
use Rattle.conversation.specs.declared.outcomes.Outcome.{Outcome}
use Rattle.conversation.specs.declared.outcomes.Outcome.TheVariants as outcome
use Rattle.conversation.specs.declared.sessions.Session.{Session}
use Rattle.conversation.specs.declared.sessions.Session.TheVariants as session
use Rattle.script_lang.specs.Limits.{HasParams}
use Rattle.plaintext_laws.specs.Batches.{Came, declarations_of, pending}
use Rattle.check_command.specs.Check.{HasNoTransaction, defines}

-- a batch that forces nothing
abbrev pub unforced : Batch → Batch
unforced batch = record { text = batch.text; params = batch.params; forced = [] }

-- it asks for the description of this batch, in this session
abbrev pub AsksFor : ℕ → Batch → Request → Type 0
AsksFor number batch r = r ≡ request.Describe number batch.text (declarations_of batch)

-- a batch that forces nothing and may be sent is begun in this session
pub record IsBegun (batch : Batch) (s : Session) : Type 0 where
  pub params : HasParams batch
  pub forced : batch.forced ≡ []
  pub fit : why_unfit batch ≡ None
  pub begun : s ≡ session.Begun batch

-- a batch is asked to be described
pub record AsksOf (number : ℕ) (r : Request) : Type 0 where
  pub batch : Batch
  pub asks : AsksFor number batch r

-- what a server in this state replies to this session
abbrev pub said_of : State → ℕ → Batch → List Reply
said_of state number batch = (described state (describe (catalog_of state number) batch.text (declarations_of batch))).replies

-- a server replies so
pub record IsSaid (number : ℕ) (replies : List Reply) : Type 0 where
  pub state : State
  pub batch : Batch
  pub said : replies ≡ said_of state number batch

-- it is so, or memory runs out
abbrev pub OrShort : {A : Type 0} → (A → Type 0) → Result A Halt → Type 0
OrShort P (Ok x) = P x
OrShort P (Err halt.OutOfMemory) = Unit {0}
OrShort P (Err other) = ⊥

-- it is described and pending after it, and its parameters are told; or the server refuses; or it may not be sent
abbrev pub IsAsked : State → ℕ → Batch → Session → DescribeAnswer → Type 0
IsAsked state number batch after (answer.Ready params) =
    (why_unfit batch ≡ None)
    × ((d : Description) × (describe (catalog_of state number) batch.text (declarations_of batch) ≡ Ok d) × (after ≡ session.Pending (pending (unforced batch) d))
    × (params ≡ described_params d.keys (uses_of (pending (unforced batch) d))))
IsAsked state number batch after (answer.Refused f) = (why_unfit batch ≡ None) × (describe (catalog_of state number) batch.text (declarations_of batch) ≡ Err f)
IsAsked state number batch after (answer.Failed f) = why_unfit batch ≡ Some f

-- this session holds a definition that was described to it in this state, in which no session has a transaction
pub record IsDefinition (state : State) (number : ℕ) (s : Session) : Type 0 where
  pub alone : HasNoTransaction state
  pub batch : Batch
  pub description : Description
  pub described : describe (catalog_of state number) batch.text (declarations_of batch) ≡ Ok description
  pub holds : s ≡ session.Pending (pending batch description)
  pub defines : defines batch.text ≡ true

-- the session holds a batch that uses no parameter
pub record IsUnused (s : Session) : Type 0 where
  pub batch : Pending
  pub holds : s ≡ session.Pending batch
  pub unused : uses_of batch ≡ []

-- its result, and the state after it
abbrev pub ComesTo : Came → State → Outcome → Type 0
ComesTo c after comes = (c.comes ≡ comes) × (c.state ≡ after)

-- EncryptionClash
abbrev pub is_clash : Outcome → Bool
is_clash (outcome.Refused f) = code_of f == 30
is_clash other = false

-- what the driver says of a definition that is executed
abbrev pub Says : Outcome → ExecuteAnswer → Type 0
Says comes said = said ≡ executed.Says comes

-- there is one reply, which tells it
abbrev pub AnswersAs : List Reply → Outcome → Type 0
AnswersAs replies comes = (x : Reply) × (replies ≡ x ∷ []) × (held.answered session.Sent x ≡ held.Tells comes)
