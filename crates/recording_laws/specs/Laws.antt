-- What is recorded makes the same shared world when it is served again.
use Rattle.std.specs.Prelude.{◌≡◌, ℕ, ◌-◌, List, [], ◌∷◌, ◌++◌, map, None, true, replicate}
use Rattle.ae_edge.specs.Devices.{IsPrefix}
use Rattle.transactions.specs.Journal.{journal}
use Rattle.transactions.specs.Serial.{Call, no_logs}
use Rattle.transactions.specs.Stores.{Ask}
use Rattle.transactions.specs.WellKept.{HasNoTransactions, IsStore}
use Rattle.wire_messages.specs.declared.requests.Request.{Request}
use Rattle.server_core.specs.Serve.{State, calls_of, serve}
use Rattle.server_core.specs.States.{any_cell}
use Rattle.recording_laws.specs.Recorded.{is_done, nothing_held, requests_recorded, after_requests, after_records}

-- no session has a transaction
abbrev pub IsIdle : State → Type 0
IsIdle state = state.sessions ≡ replicate 64 None

-- each request is done
abbrev pub AreDone : State → List Request → Type 0
AreDone state [] = Unit {0}
AreDone state (request ∷ requests) = (is_done (serve state request).replies ≡ true) × AreDone (serve state request).after requests

-- each request of each record is done, and no transaction is open after a record
abbrev pub AreServedAgain : State → List (List Request) → Type 0
AreServedAgain state [] = Unit {0}
AreServedAgain state (requests ∷ records) = AreDone state requests × IsIdle (after_requests state requests) × AreServedAgain (after_requests state requests) records

-- the records of some requests are served again from where the requests began, and lead to the shared world that the requests lead to
pub record IsReplayed (state : State) (requests : List Request) : Type 0 where
  pub served : AreServedAgain state (requests_recorded state nothing_held requests)
  pub shared : (after_records state (requests_recorded state nothing_held requests)).shared ≡ (after_requests state requests).shared

-- so it is from every state that can stand and has no transactions
abbrev pub ReplayLaw : Type 0
ReplayLaw = (state : State) (requests : List Request) → IsStore any_cell state → HasNoTransactions state → IsReplayed state requests

-- ---- what the records ask

-- the calls that the requests of each record make of the state, where the records are served one after another
abbrev pub calls_of_records : State → List (List Request) → List (List Call)
calls_of_records state [] = []
calls_of_records state (requests ∷ records) = calls_of state requests ∷ calls_of_records (after_requests state requests) records

-- a call by the place of its session: sessions are numbered from 1, and 0 would have the place of 1
abbrev pub by_slot : Call → ℕ × Ask
by_slot call = (call.session - 1, call.ask)

-- served again, the records of some requests make the calls that the journal of the requests' calls holds
abbrev pub RecordsAreJournals : Type 0
RecordsAreJournals = (state : State) (requests : List Request) → IsStore any_cell state → HasNoTransactions state
    → map (map by_slot) (calls_of_records state (requests_recorded state nothing_held requests)) ≡ map (map by_slot) (journal state no_logs (calls_of state requests))

-- ---- prefixes

-- after records that are served again, each prefix of what is recorded from the state that they lead to is served again too
abbrev pub PrefixesAreAccepted : Type 0
PrefixesAreAccepted = (state : State) (records prefix : List (List Request)) (requests : List Request) → IsStore any_cell state → HasNoTransactions state → AreServedAgain state records
    → IsPrefix prefix (requests_recorded (after_records state records) nothing_held requests) → AreServedAgain state (records ++ prefix)
