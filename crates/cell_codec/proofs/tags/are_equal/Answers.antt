-- The difference is zero exactly where all the bytes are equal.
use Rattle.std.proofs.Common.{arith}
use Rattle.cell_codec.proofs.Comparing.{difference-start, difference-more, difference-end}
use Rattle.cell_codec.proofs.tags.are_equal.Goals as goal

pub loop-i-init : goal.loop-i-init
loop-i-init c = difference-start _ _

pub loop-i-preserved : goal.loop-i-preserved
loop-i-preserved c = difference-more _ _ _ _ (omega arith) (omega arith) c.loop-i.invariant

pub returns : goal.returns
returns c = difference-end _ _ c.loop-i.i c.loop-i.difference (omega arith) (omega arith) c.loop-i.invariant
