-- Requests are serial, as what they ask of the state is.
use Rattle.std.proofs.Common.{ap, ◌∙◌, refl}
use Rattle.transactions.specs.Laws.{TransactionsAreSerial}
use Rattle.server_core.specs.Laws.{RequestsAreSerial, RequestsAreSerialFrom, RequestsMayBeAsked}
use Rattle.server_core.specs.Serve.{State, empty_state, calls_of}
use Rattle.server_core.specs.States.{any_cell}
use Rattle.server_core.proofs.Allowed.{all_allowed}
use Rattle.server_core.proofs.Serial.{after_all}

pub requests_serial : RequestsMayBeAsked → TransactionsAreSerial → RequestsAreSerialFrom
requests_serial may law state store none requests =
    let s = law any_cell state (calls_of state requests) store none (all_allowed may state requests store) in
    record { shared = ap (λ (after : State). after.shared) (after_all state requests) ∙ s.shared; answers = s.answers }

pub serial_from_empty : RequestsMayBeAsked → RequestsAreSerialFrom → RequestsAreSerial
serial_from_empty may law requests = law empty_state may.0 (record { counts = refl; none = refl }) requests
