-- The difference is that of the bytes so far.
use Rattle.cell_codec.proofs.Comparing.{IsDifference}
use Rattle.cell_codec.proofs.tags.are_equal.Given as goal

abbrev pub invariant-loop-i : goal.invariant-loop-i
invariant-loop-i l = IsDifference l.a l.b l.i l.difference
