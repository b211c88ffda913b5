-- What a rotation means in plain SQL: its batches one after another over plain values, and the one outcome.
use Rattle.std.specs.Prelude.{ℕ, List, [], ◌∷◌, length, Option, Some, None, Bool, not, if◌then◌else◌}
use Rattle.ae_base.specs.declared.batches.Batch.{Batch}
use Rattle.ae_base.specs.declared.values.Value.{Value}
use Rattle.ae_edge.specs.Vaults.{KeyMap}
use Rattle.wire_messages.specs.declared.columns.SentColumn.{SentColumn}
use Rattle.server_core.specs.Serve.{State}
use Rattle.conversation.specs.Pending.{Pending}
use Rattle.conversation.specs.Turns.{Accepted}
use Rattle.conversation.specs.declared.faults.DriverFault.TheVariants.{StillPending, NotAlike, NotEmpty}
use Rattle.conversation.specs.declared.outcomes.Outcome.{Outcome}
use Rattle.conversation.specs.declared.outcomes.Outcome.TheVariants as outcome
use Rattle.driver.specs.declared.outcomes.Fault.{Fault}
use Rattle.driver.specs.declared.outcomes.Fault.TheVariants.{OfDriver}
use Rattle.driver.specs.declared.outcomes.Outcome as told_outcome
use Rattle.driver.specs.declared.outcomes.Outcome.TheVariants as told
use Rattle.column_rotate.specs.Headers.{are_alike, columns_in}
use Rattle.column_rotate.specs.Moves.{is_empty, rows_told}
use Rattle.column_rotate.specs.Rotating.{fault_as, told_of}
use Rattle.column_rotate.specs.Texts.{begins, commits, puts, reads_all, replaces, rolls_back}
use Rattle.plaintext_laws.specs.Batches.{Came, came, runs_whole}

abbrev pub Told : Type 0
Told = told_outcome.Outcome

-- what comes after a batch: by how it ended, what its session holds, and the plain state
abbrev pub Then : Type 0
Then = Told → Option Pending → State → Came

-- a refusal goes one way, anything else the other
abbrev pub unless_refused : (Fault → Option Pending → State → Came) → Then → Then
unless_refused fails k (told.Refused fault) held state = fails fault held state
unless_refused fails k (told.Rows rows) held state = k (told.Rows rows) held state
unless_refused fails k (told.Changed count) held state = k (told.Changed count) held state
unless_refused fails k told.Defined held state = k told.Defined held state

module _ (keys : KeyMap) (trusted : List (List ℕ)) (number : ℕ) (old new : List ℕ) where
  -- a batch is run whole, and how it ended goes on, with the columns that its session accepted
  abbrev pub runs : Batch → Option Pending → State → (Accepted → Then) → Came
  runs batch held state k = let c = runs_whole keys trusted number batch held state in k c.accepted (told_of c.comes) c.held c.state

  abbrev pub fails_with : Fault → Option Pending → State → Came
  fails_with fault held state = came (fault_as fault) held state

  -- ROLLBACK, whatever it answers
  abbrev pub rolling_back : Fault → Option Pending → State → Came
  rolling_back fault held state = runs rolls_back held state (λ columns comes held state. fails_with fault held state)

  abbrev pub committing : ℕ → Option Pending → State → Came
  committing all held state = runs commits held state (λ columns. unless_refused fails_with (λ comes held state. came (outcome.Rotated all) held state))

  abbrev pub replacing : ℕ → Option Pending → State → Came
  replacing all held state = runs (replaces old new) held state (λ columns. unless_refused rolling_back (λ comes held state. committing all held state))

  abbrev pub putting_each : List SentColumn → ℕ → List (List Value) → Option Pending → State → Came
  putting_each columns all [] held state = replacing all held state
  putting_each columns all (row ∷ rows) held state =
      runs (puts new columns row) held state (λ others. unless_refused rolling_back (λ comes held state. putting_each columns all rows held state))

  abbrev pub comparing : (news : Accepted) (empty : Bool) → (olds : Accepted) → List (List Value) → Option Pending → State → Came
  comparing news empty olds rows held state =
      if not (are_alike olds news) then rolling_back (OfDriver (NotAlike new)) held state else
      if not empty then rolling_back (OfDriver (NotEmpty new)) held state else
      putting_each (columns_in olds) (length rows) rows held state

  abbrev pub reading_old : Accepted → Bool → Option Pending → State → Came
  reading_old news empty held state =
      runs (reads_all old) held state (λ olds. unless_refused rolling_back (λ comes held state. comparing news empty olds (rows_told comes) held state))

  abbrev pub reading_new : Option Pending → State → Came
  reading_new held state =
      runs (reads_all new) held state (λ news. unless_refused rolling_back (λ comes held state. reading_old news (is_empty (rows_told comes)) held state))

  abbrev pub beginning : Option Pending → State → Came
  beginning held state = runs begins held state (λ columns. unless_refused fails_with (λ comes held state. reading_new held state))

  -- a session that has a batch rotates nothing
  abbrev pub rotates : Option Pending → State → Came
  rotates None state = beginning None state
  rotates (Some p) state = came (outcome.Failed StillPending) (Some p) state
