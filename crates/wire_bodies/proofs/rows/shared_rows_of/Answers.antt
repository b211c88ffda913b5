-- One row more, or none.
use Rattle.std.proofs.Common.{◌≡◌, ◌<◌, ℕ, length, arith, subst, Some}
use Rattle.std.proofs.lemmas.List.{length_push}
use Rattle.wire_decoding.specs.Reading.{parts_at, shared_row_at}
use Rattle.wire_bodies.proofs.PartsRead.{AreRead-push, parts_read, parts_end}
use Rattle.wire_bodies.proofs.rows.shared_rows_of.Goals as goal

pub returns-in-Bad : goal.returns-in-Bad
returns-in-Bad c =
    let short : length c.loop.parts < c.args.rows = omega (arith, c.loop.invariant.0) in
    parts_end (shared_row_at c.args.columns) c.loop.parts c.args.bytes.now c.loop.rest.now c.args.rows c.loop.invariant.1 short c.in-Bad.ensures

pub returns : goal.returns
returns c =
    let all : length c.loop.parts ≡ c.args.rows = omega (arith, c.loop.invariant.0) in
    subst (λ (k : ℕ). parts_at (shared_row_at c.args.columns) k c.args.bytes.now ≡ Some (c.loop.parts, c.loop.rest.now)) all
    (parts_read (shared_row_at c.args.columns) c.loop.parts c.args.bytes.now c.loop.rest.now c.loop.invariant.1)

pub loop-preserved : goal.loop-preserved
loop-preserved c =
    let read = AreRead-push (shared_row_at c.args.columns) c.loop.parts c.in-One.row c.args.bytes.now c.loop.rest.now c.in-One.after.now c.loop.invariant.1 c.in-One.ensures in
    rw c.in-Ok.ensures.ok (omega (arith, c.loop.invariant.0, length_push c.loop.parts c.in-One.row), read)
