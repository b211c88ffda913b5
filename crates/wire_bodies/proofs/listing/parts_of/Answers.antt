-- One part more, or none.
use Rattle.std.proofs.Common.{◌≡◌, ◌<◌, ℕ, length, arith, subst, Some}
use Rattle.std.proofs.lemmas.List.{length_push}
use Rattle.wire_decoding.specs.Reading.{parts_at}
use Rattle.wire_bodies.proofs.PartsRead.{AreRead-push, parts_read, parts_end}
use Rattle.wire_bodies.proofs.listing.parts_of.Goals as goal

pub returns-in-None : goal.returns-in-None
returns-in-None g c =
    let short : length c.loop.parts < c.args.count = omega (arith, c.loop.invariant.0) in
    parts_end g.P.ReadPart.reading c.loop.parts c.args.bytes.now c.loop.rest.now c.args.count c.loop.invariant.1 short c.in-None.ensures

pub returns : goal.returns
returns g c =
    let all : length c.loop.parts ≡ c.args.count = omega (arith, c.loop.invariant.0) in
    subst (λ (k : ℕ). parts_at g.P.ReadPart.reading k c.args.bytes.now ≡ Some (c.loop.parts, c.loop.rest.now)) all
    (parts_read g.P.ReadPart.reading c.loop.parts c.args.bytes.now c.loop.rest.now c.loop.invariant.1)

pub loop-preserved : goal.loop-preserved
loop-preserved g c =
    let read = AreRead-push g.P.ReadPart.reading c.loop.parts c.in-Some.part c.args.bytes.now c.loop.rest.now c.in-Some.after.now c.loop.invariant.1 c.in-Some.ensures in
    rw c.in-Ok.ensures.ok (omega (arith, c.loop.invariant.0, length_push c.loop.parts c.in-Some.part), read)
