-- The atom of the next column.
use Rattle.operators.proofs.Grouping.{atoms_more}
use Rattle.operators.proofs.alike.atoms_at.Goals as goal

pub loop-column-preserved : goal.loop-column-preserved
loop-column-preserved g c =
    rw c.in_ok-push.ensures.items
    (atoms_more c.args.columns.now c.args.row.now c.loop-column.column-index _ c.get.result.now c.loop-column.atoms.items
    c.loop-column.invariant c.loop-column-test.true (c.requires c.loop-column.column-index _ c.loop-column-test.true) (c.get.ensures c.get.result.now))
