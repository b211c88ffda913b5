-- Few parts, or none.
use Rattle.wire_bodies.proofs.Counted.{few_counted, few_none}
use Rattle.wire_bodies.proofs.listing.many_of.Goals as goal

pub returns-in-Some : goal.returns-in-Some
returns-in-Some g c = rw (few_counted g.P.ReadPart.reading c.args.bytes.now c.in-Some.count c.in-Some.rest.now c.in-Some.ensures) c.parts_of.ensures

pub returns-in-None : goal.returns-in-None
returns-in-None g c = few_none g.P.ReadPart.reading c.args.bytes.now c.in-None.ensures
