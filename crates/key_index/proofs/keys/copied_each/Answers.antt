-- The atom of the next place.
use Rattle.key_index.proofs.Cutting.{key_more}
use Rattle.key_index.proofs.keys.copied_each.Goals as goal

pub loop-place-preserved : goal.loop-place-preserved
loop-place-preserved g c =
    rw (c.in_ok-push.ensures.items)
    (key_more c.args.places.now c.args.row.now c.loop-place.place-index c.in_ok-atom.atom c.loop-place.atoms.items c.loop-place.invariant c.loop-place-test.true c.in_ok-atom.ensures)
