-- A request, less than a frame, or what stands there of the other direction.
use Rattle.tap_reading.proofs.Directions.{found, not_yet_asked}
use Rattle.tap_reading.proofs.decoding.decode.Goals as goal

pub returns-in-NotYet : goal.returns-in-NotYet
returns-in-NotYet c = not_yet_asked c.args.bytes.now c.in-NotYet.ensures.cases

pub returns-in-Bad : goal.returns-in-Bad
returns-in-Bad c = found c.args.bytes.now c.decode_told.result (record { refused = c.in-Bad.ensures.cases; none = c.in-Bad.ensures.only }) c.decode_told.ensures
