use Rattle.server_core.proofs.SerialRequests.{requests_serial}
use Rattle.server_core.proofs.laws.requests_are_serial_from.Goals as goal

pub returns : goal.returns
returns c = requests_serial c.requests_may_be_asked.ensures c.transactions_are_serial.ensures
