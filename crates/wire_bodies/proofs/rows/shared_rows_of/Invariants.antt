-- The rows so far stand at the start, before the rest.
use Rattle.std.proofs.Common.{◌≡◌, length}
use Rattle.wire_decoding.specs.Reading.{shared_row_at}
use Rattle.wire_bodies.proofs.PartsRead.{AreRead}
use Rattle.wire_bodies.proofs.rows.shared_rows_of.Given as goal

abbrev pub invariant-loop : goal.invariant-loop
invariant-loop l = (length l.parts ≡ l.counter) × AreRead (shared_row_at l.columns) l.parts l.bytes l.rest
