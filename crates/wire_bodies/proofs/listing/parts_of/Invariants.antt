-- The parts so far stand at the start, before the rest.
use Rattle.std.proofs.Common.{◌≡◌, length}
use Rattle.wire_bodies.proofs.PartsRead.{AreRead}
use Rattle.wire_bodies.proofs.listing.parts_of.Given as goal

abbrev pub invariant-loop : goal.invariant-loop
invariant-loop g l = (length l.parts ≡ l.counter) × AreRead g.P.ReadPart.reading l.parts l.bytes l.rest
