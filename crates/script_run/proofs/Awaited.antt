-- What is known of a session by what it answers.
use Rattle.std.proofs.Common.{◌≡◌, ℕ, List, Option, Some, None, Result, Ok, Err, Bool, true, false, refl, sym, ap, subst}
use Rattle.std.specs.Prelude.{IfSome, ◌+◌, ◌==◌, if◌then◌else◌}
use Rattle.ae_base.specs.declared.batches.Batch.{Batch}
use Rattle.ae_base.specs.declared.types.Enc.{Enc}
use Rattle.ae_base.specs.declared.values.Value.{Value}
use Rattle.hmac_kdf.specs.Keys.{Keys}
use Rattle.wire_messages.specs.Messages.{Description}
use Rattle.wire_messages.specs.declared.replies.Done.{Done}
use Rattle.wire_messages.specs.declared.replies.Done.TheVariants as done
use Rattle.wire_messages.specs.declared.replies.Reply.{Reply}
use Rattle.wire_messages.specs.declared.replies.Reply.TheVariants as reply
use Rattle.conversation.specs.declared.answers.DescribeAnswer.{DescribeAnswer}
use Rattle.conversation.specs.declared.answers.RowAnswer.{RowAnswer}
use Rattle.conversation.specs.declared.answers.RowAnswer.TheVariants as answer
use Rattle.conversation.specs.declared.faults.DriverFault.{DriverFault}
use Rattle.conversation.specs.declared.outcomes.Listing.{Listing}
use Rattle.conversation.specs.declared.sessions.ColumnType.{ColumnType}
use Rattle.conversation.specs.declared.sessions.Session.{Session}
use Rattle.conversation.specs.declared.sessions.Session.TheVariants.{Idle, Begun, Pending, Sent, Reading, Skipping}
use Rattle.conversation.specs.declared.sessions.Turn.{Turn}
use Rattle.conversation.specs.Cells.{is_row_of, read_atoms}
use Rattle.conversation.specs.Sessions.{described, described_as, readied, first_open, encs_of, next_row, rows_ended, row_read}
use Rattle.conversation.specs.Talk.{Hearing, More, Got, Missed, Said, hear, heard_next, heard_row, heard_description, described_outcome, broken, nothing_shown}
use Rattle.script_run.specs.declared.around.RowHeard.{RowHeard}
use Rattle.script_run.specs.declared.around.RowHeard.TheVariants as row
use Rattle.script_run.specs.Heard.{HeardAs}
use Rattle.script_run.specs.Onward.{IsBegun, IsRows, IsDescribed, RowsStay}

-- ---- a description

pub got_description : (session : Session) → IsBegun session → (r : Reply) (a : DescribeAnswer) (after : Session) → described session r ≡ Some (record { answer = a; after = after })
    → hear session nothing_shown r ≡ Got (Said (described_outcome a) after)
got_description (Begun batch) b r a after e = ap heard_description e
got_description Idle b r a after e = absurd b
got_description (Pending pending) b r a after e = absurd b
got_description Sent b r a after e = absurd b
got_description (Reading columns keys count) b r a after e = absurd b
got_description (Skipping columns count) b r a after e = absurd b

pub missed_description : (session : Session) → IsBegun session → (r : Reply) → described session r ≡ None → hear session nothing_shown r ≡ Missed
missed_description (Begun batch) b r e = ap heard_description e
missed_description Idle b r e = absurd b
missed_description (Pending pending) b r e = absurd b
missed_description Sent b r e = absurd b
missed_description (Reading columns keys count) b r e = absurd b
missed_description (Skipping columns count) b r e = absurd b

pub begun_broken : (session : Session) (shown : Listing) → IsBegun session → broken session shown ≡ None
begun_broken (Begun batch) shown b = refl
begun_broken Idle shown b = refl
begun_broken (Pending pending) shown b = refl
begun_broken Sent shown b = refl
begun_broken (Reading columns keys count) shown b = absurd b
begun_broken (Skipping columns count) shown b = refl

known_ready : (batch : Batch) (d : Description) (encs : List (Option Enc)) (o : Option (List ℕ)) → let t = readied batch d encs o in IsDescribed t.answer t.after
known_ready batch d encs None = (record { batch = batch; version = d.version; keys = d.keys; encs = encs }, refl, refl)
known_ready batch d encs (Some name) = refl

known_as : (batch : Batch) (d : Description) (encs : Option (List (Option Enc))) → IfSome (described_as batch d encs) (λ t. IsDescribed t.answer t.after)
known_as batch d (Some encs) = known_ready batch d encs (first_open batch.forced batch.params encs)
known_as batch d None = tt

known : (session : Session) (r : Reply) → IfSome (described session r) (λ t. IsDescribed t.answer t.after)
known (Begun batch) (reply.Described d) = known_as batch d (encs_of batch.params d.params)
known (Begun batch) (reply.Refused f) = refl
known (Begun batch) (reply.Columns header) = tt
known (Begun batch) (reply.Row atoms) = tt
known (Begun batch) (reply.Ended d) = tt
known Idle r = tt
known (Pending pending) r = tt
known Sent r = tt
known (Reading columns keys count) r = tt
known (Skipping columns count) r = tt

pub is_described : (session : Session) (r : Reply) (a : DescribeAnswer) (after : Session) → described session r ≡ Some (record { answer = a; after = after }) → IsDescribed a after
is_described session r a after e = subst (λ w. IfSome w (λ t. IsDescribed t.answer t.after)) e (known session r)

-- ---- rows

-- where more is awaited, it is rows
abbrev AwaitsRows : RowAnswer → Session → Type 0
AwaitsRows (answer.Row values) after = IsRows after
AwaitsRows answer.Skipped after = IsRows after
AwaitsRows (answer.Rows count) after = Unit {0}
AwaitsRows (answer.Failed f) after = Unit {0}
AwaitsRows answer.Over after = Unit {0}

abbrev NextAwaits : Option (Turn RowAnswer) → Type 0
NextAwaits o = IfSome o (λ t. AwaitsRows t.answer t.after)

row_awaits : (columns : List ColumnType) (keys : List (Option Keys)) (count : ℕ) (read : Result (List Value) DriverFault) → let t = row_read columns keys count read in AwaitsRows t.answer t.after
row_awaits columns keys count (Ok values) = tt
row_awaits columns keys count (Err f) = tt

if_awaits : (b : Bool) (t : Turn RowAnswer) → AwaitsRows t.answer t.after → NextAwaits (if b then Some t else None)
if_awaits true t h = h
if_awaits false t h = tt

end_awaits : (count : ℕ) (says : RowAnswer) (d : Done) → AwaitsRows says Idle → NextAwaits (rows_ended count says d)
end_awaits count says done.Defined h = tt
end_awaits count says (done.Changed n) h = tt
end_awaits count says (done.Answered n) h = if_awaits (n == count) (record { answer = says; after = Idle }) h

next_awaits : (session : Session) (r : Reply) → NextAwaits (next_row session r)
next_awaits (Reading columns keys count) (reply.Row atoms) =
    if_awaits (is_row_of columns atoms) (row_read columns keys (count + 1) (read_atoms (count + 1) 1 columns keys atoms))
    (row_awaits columns keys (count + 1) (read_atoms (count + 1) 1 columns keys atoms))
next_awaits (Reading columns keys count) (reply.Ended d) = end_awaits count (answer.Rows count) d tt
next_awaits (Reading columns keys count) (reply.Refused f) = tt
next_awaits (Reading columns keys count) (reply.Columns header) = tt
next_awaits (Reading columns keys count) (reply.Described d) = tt
next_awaits (Skipping columns count) (reply.Row atoms) = if_awaits (is_row_of columns atoms) (record { answer = answer.Skipped; after = Skipping columns (count + 1) }) tt
next_awaits (Skipping columns count) (reply.Ended d) = end_awaits count answer.Over d tt
next_awaits (Skipping columns count) (reply.Refused f) = tt
next_awaits (Skipping columns count) (reply.Columns header) = tt
next_awaits (Skipping columns count) (reply.Described d) = tt
next_awaits Idle r = tt
next_awaits (Begun batch) r = tt
next_awaits (Pending pending) r = tt
next_awaits Sent r = tt

pub hears_rows : (session : Session) → IsRows session → (shown : Listing) (r : Reply) → hear session shown r ≡ heard_next shown (next_row session r)
hears_rows (Reading columns keys count) w shown r = refl
hears_rows (Skipping columns count) w shown r = refl
hears_rows Idle w shown r = absurd w
hears_rows (Begun batch) w shown r = absurd w
hears_rows (Pending pending) w shown r = absurd w
hears_rows Sent w shown r = absurd w

abbrev IsMore : Hearing → Type 0
IsMore (More after shown) = Unit {0}
IsMore (Got heard) = ⊥
IsMore Missed = ⊥

more_rows : (x : RowAnswer) (after : Session) (shown more : Listing) → AwaitsRows x after → heard_row shown x after ≡ More after more → IsRows after
more_rows (answer.Row values) after shown more w e = w
more_rows answer.Skipped after shown more w e = w
more_rows (answer.Rows count) after shown more w e = absurd (subst IsMore (sym e) tt)
more_rows (answer.Failed f) after shown more w e = absurd (subst IsMore (sym e) tt)
more_rows answer.Over after shown more w e = absurd (subst IsMore (sym e) tt)

pub rows_stay : (session : Session) (r : Reply) (heard : RowHeard) (x : RowAnswer) (after : Session) (shown more : Listing) → next_row session r ≡ Some (record { answer = x; after = after })
    → HeardAs heard more after (heard_row shown x after) → RowsStay after heard
rows_stay session r row.More x after shown more s e = more_rows x after shown more (subst NextAwaits s (next_awaits session r)) e
rows_stay session r (row.Said comes) x after shown more s e = tt
