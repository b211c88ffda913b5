-- One session of the driver: what it answers to each call, and what it holds after it.
use Rattle.std.specs.Prelude.{ℕ, ◌+◌, ◌-◌, List, [], ◌∷◌, map, slice_index_or, slice_set, replicate, Option, Some, None, Result, Ok, Err, Bool, false, ◌&&◌, not, ◌==◌, if◌then◌else◌}
use Rattle.std.specs.List.{list_any}
use Rattle.std.specs.Str.{bytes_eq}
use Rattle.ae_base.specs.declared.batches.Batch.{Batch}
use Rattle.ae_base.specs.declared.batches.Param.{Param}
use Rattle.ae_base.specs.declared.keys.KeyMeta.{KeyMeta}
use Rattle.ae_base.specs.declared.types.Enc.{Enc}
use Rattle.ae_base.specs.declared.types.Enc.TheVariants as enc
use Rattle.ae_base.specs.declared.values.Value.{Value}
use Rattle.hmac_kdf.specs.Keys.{Keys}
use Rattle.wire_messages.specs.Messages.{Description, Header}
use Rattle.wire_messages.specs.declared.params.UsedParam.{UsedParam}
use Rattle.wire_messages.specs.declared.requests.Request.{Request}
use Rattle.wire_messages.specs.declared.requests.Request.TheVariants.{Describe}
use Rattle.wire_messages.specs.declared.replies.Reply.{Reply}
use Rattle.wire_messages.specs.declared.replies.Reply.TheVariants as reply
use Rattle.wire_messages.specs.declared.replies.Done.{Done}
use Rattle.wire_messages.specs.declared.replies.Done.TheVariants as done
use Rattle.conversation.specs.declared.faults.DriverFault.{DriverFault}
use Rattle.conversation.specs.declared.faults.DriverFault.TheVariants as fault
use Rattle.conversation.specs.declared.outcomes.DescribedParam.{DescribedParam}
use Rattle.conversation.specs.declared.outcomes.NamedEnc.{NamedEnc}
use Rattle.conversation.specs.declared.outcomes.NamedEnc.TheVariants as named
use Rattle.conversation.specs.declared.outcomes.Outcome.{Outcome}
use Rattle.conversation.specs.declared.outcomes.Outcome.TheVariants as outcome
use Rattle.conversation.specs.declared.answers.DescribeAnswer.{DescribeAnswer}
use Rattle.conversation.specs.declared.answers.DescribeAnswer.TheVariants.{Ready, Refused, Failed}
use Rattle.conversation.specs.declared.answers.RowAnswer.{RowAnswer}
use Rattle.conversation.specs.declared.answers.RowAnswer.TheVariants as answer
use Rattle.conversation.specs.declared.sessions.Turn.{Turn}
use Rattle.conversation.specs.declared.sessions.ColumnType.{ColumnType}
use Rattle.conversation.specs.declared.sessions.Session.{Session}
use Rattle.conversation.specs.declared.sessions.Session.TheVariants.{Idle, Begun, Pending, Sent, Reading, Skipping}
use Rattle.conversation.specs.Batches.{fit_batch}
use Rattle.conversation.specs.Keys.{meta_of}
use Rattle.conversation.specs.Pending.{Use, uses_in}
use Rattle.conversation.specs.Cells.{is_encrypted, is_row_of, read_atoms}

-- ---- the sessions of a client, numbered from 1 to 64

abbrev pub nobody : List Session
nobody = replicate 64 Idle

abbrev pub session_at : List Session → ℕ → Session
session_at sessions number = slice_index_or sessions (number - 1) Idle

abbrev pub with_session : List Session → ℕ → Session → List Session
with_session sessions number session = slice_set sessions (number - 1) session

-- ---- a batch is begun

abbrev pub begun : ℕ → Result Batch DriverFault → Turn (Result Request DriverFault)
begun number (Ok batch) = record { answer = Ok (Describe number batch.text (map (λ p. p.declaration) batch.params)); after = Begun batch }
begun number (Err f) = record { answer = Err f; after = Idle }

-- a session has one batch; its values fit their types; its text has at most 65,536 bytes
abbrev pub begin : Session → ℕ → Batch → Turn (Result Request DriverFault)
begin Idle number batch = begun number (fit_batch batch)
begin (Begun other) number batch = record { answer = Err fault.StillPending; after = Begun other }
begin (Pending pending) number batch = record { answer = Err fault.StillPending; after = Pending pending }
begin Sent number batch = record { answer = Err fault.StillPending; after = Sent }
begin (Reading columns keys count) number batch = record { answer = Err fault.StillPending; after = Reading columns keys count }
begin (Skipping columns count) number batch = record { answer = Err fault.StillPending; after = Skipping columns count }

-- ---- the answer to its description

abbrev pub with_enc : Option Enc → Option (List (Option Enc)) → Option (List (Option Enc))
with_enc enc (Some encs) = Some (enc ∷ encs)
with_enc enc None = None

-- how each declared parameter is to be encrypted, where it is used; none where the used ones aren't declared ones in the order of declaration
abbrev pub encs_of : List Param → List UsedParam → Option (List (Option Enc))
encs_of [] [] = Some []
encs_of [] (used ∷ more) = None
encs_of (param ∷ params) [] = with_enc None (encs_of params [])
encs_of (param ∷ params) (used ∷ more) =
    if bytes_eq used.name param.declaration.name
    then with_enc (Some used.enc) (encs_of params more)
    else with_enc None (encs_of params (used ∷ more))

-- the encryption with the name of its key
abbrev pub named_enc : List KeyMeta → Enc → NamedEnc
named_enc keys enc.Plain = named.Plain
named_enc keys (enc.Det key) = named.Det (meta_of keys key).name
named_enc keys (enc.Rnd key) = named.Rnd (meta_of keys key).name

abbrev pub described_params : List KeyMeta → List Use → List DescribedParam
described_params keys uses = map (λ u. record { name = u.param.declaration.name; enc = named_enc keys u.enc }) uses

-- whether a parameter that is told so is sent as a cell; one of which nothing is told isn't
abbrev pub is_sealed : Option Enc → Bool
is_sealed None = false
is_sealed (Some enc) = is_encrypted enc

abbrev pub is_forced : List (List ℕ) → Param → Bool
is_forced forced param = list_any (bytes_eq param.declaration.name) forced

-- the first forced parameter, in declaration order, that would not be sent as a cell
abbrev pub first_open : List (List ℕ) → List Param → List (Option Enc) → Option (List ℕ)
first_open forced [] encs = None
first_open forced (param ∷ params) [] = None
first_open forced (param ∷ params) (enc ∷ encs) =
    if is_forced forced param && not (is_sealed enc) then Some param.declaration.name else first_open forced params encs

-- a described batch is pending, unless a forced parameter would not be sent as a cell
abbrev pub readied : Batch → Description → List (Option Enc) → Option (List ℕ) → Turn DescribeAnswer
readied batch description encs None = record {
  answer = Ready (described_params description.keys (uses_in batch.params encs));
  after = Pending (record { batch = batch; version = description.version; keys = description.keys; encs = encs });
}
readied batch description encs (Some name) = record { answer = Failed (fault.NotEncrypted name); after = Idle }

abbrev pub described_as : Batch → Description → Option (List (Option Enc)) → Option (Turn DescribeAnswer)
described_as batch description (Some encs) = Some (readied batch description encs (first_open batch.forced batch.params encs))
described_as batch description None = None

-- after Describe a Refused is awaited, or a Described of declared parameters; None stands for a reply that isn't, which leaves the session
abbrev pub described : Session → Reply → Option (Turn DescribeAnswer)
described (Begun batch) (reply.Described description) = described_as batch description (encs_of batch.params description.params)
described (Begun batch) (reply.Refused f) = Some (record { answer = Refused f; after = Idle })
described (Begun batch) (reply.Columns header) = None
described (Begun batch) (reply.Row atoms) = None
described (Begun batch) (reply.Ended d) = None
described Idle r = None
described (Pending pending) r = None
described Sent r = None
described (Reading columns keys count) r = None
described (Skipping columns count) r = None

-- ---- the first reply to its execution

-- a reply tells an outcome, after which the session is idle; or it shows columns, whose keys are opened first; or it isn't awaited
pub data Told : Type 0 where
  Tells : (comes : Outcome) → Told
  Shows : (header : Header) → Told
  Stray : Told

abbrev pub sent_ended : Done → Told
sent_ended done.Defined = Tells outcome.Defined
sent_ended (done.Changed count) = Tells (outcome.Changed count)
sent_ended (done.Answered count) = Stray

-- after Execute a Refused, the end of a definition or a change, or Columns is awaited
abbrev pub answered : Session → Reply → Told
answered Sent (reply.Columns header) = Shows header
answered Sent (reply.Ended d) = sent_ended d
answered Sent (reply.Refused f) = Tells (outcome.Refused f)
answered Sent (reply.Row atoms) = Stray
answered Sent (reply.Described description) = Stray
answered other r = Stray

-- ---- its rows

-- the end of an answer has the number of rows that came
abbrev pub rows_ended : ℕ → RowAnswer → Done → Option (Turn RowAnswer)
rows_ended count says done.Defined = None
rows_ended count says (done.Changed n) = None
rows_ended count says (done.Answered n) = if n == count then Some (record { answer = says; after = Idle }) else None

abbrev pub row_read : List ColumnType → List (Option Keys) → ℕ → Result (List Value) DriverFault → Turn RowAnswer
row_read columns keys count (Ok values) = record { answer = answer.Row values; after = Reading columns keys count }
row_read columns keys count (Err f) = record { answer = answer.Failed f; after = Skipping columns count }

-- after Columns a Row with one atom for each column is awaited, or the end with the number of rows that came; None stands for a reply that isn't
abbrev pub next_row : Session → Reply → Option (Turn RowAnswer)
next_row (Reading columns keys count) (reply.Row atoms) =
    if is_row_of columns atoms then Some (row_read columns keys (count + 1) (read_atoms (count + 1) 1 columns keys atoms)) else None
next_row (Reading columns keys count) (reply.Ended d) = rows_ended count (answer.Rows count) d
next_row (Reading columns keys count) other = None
next_row (Skipping columns count) (reply.Row atoms) =
    if is_row_of columns atoms then Some (record { answer = answer.Skipped; after = Skipping columns (count + 1) }) else None
next_row (Skipping columns count) (reply.Ended d) = rows_ended count answer.Over d
next_row (Skipping columns count) other = None
next_row other r = None

abbrev pub titles_of : Header → List (List ℕ)
titles_of header = map (λ c. c.title) header.columns

abbrev pub types_of : Header → List ColumnType
types_of header = map (λ c. record { ty = c.ty; enc = c.enc }) header.columns
