-- The columns that a session accepted since its last accepted batch began.
use Rattle.std.specs.Prelude.{◌≡◌, ℕ, ◌-◌, List, replicate, slice_index_or, slice_set, Some, None, Result, Ok, Err}
use Rattle.conversation.specs.declared.faults.DriverFault.{DriverFault}
use Rattle.conversation.specs.Sessions.{Told, Tells, Shows, Stray}
use Rattle.conversation.specs.Turns.{Accepted}

abbrev pub none_accepted : List Accepted
none_accepted = replicate 64 None

-- by the number of the session, from 1 to 64
abbrev pub accepted_at : List Accepted → ℕ → Accepted
accepted_at all number = slice_index_or all (number - 1) None

abbrev pub with_accepted : List Accepted → ℕ → Accepted → List Accepted
with_accepted all number accepted = slice_set all (number - 1) accepted

-- what the sessions of all other numbers accepted stays
abbrev pub IsAcceptedOnlyAt : ℕ → List Accepted → List Accepted → Type 0
IsAcceptedOnlyAt number old new = new ≡ with_accepted old number (accepted_at new number)

-- a batch that begins has no columns yet
abbrev pub accepted_begun : {A E : Type 0} → Result (Result A DriverFault) E → Accepted → Accepted
accepted_begun (Ok (Ok request)) old = None
accepted_begun (Ok (Err f)) old = old
accepted_begun (Err e) old = old

abbrev pub accepted_told : Told → Accepted → Accepted
accepted_told (Shows header) old = Some header.columns
accepted_told (Tells comes) old = old
accepted_told Stray old = old

-- columns are accepted also where their keys can't be opened; what halts leaves what was accepted
abbrev pub accepted_answered : {A E : Type 0} → Result A E → Told → Accepted → Accepted
accepted_answered (Ok says) told old = accepted_told told old
accepted_answered (Err halt) told old = old
