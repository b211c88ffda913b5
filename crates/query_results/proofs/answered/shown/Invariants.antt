-- What is shown of those so far.
use Rattle.std.specs.Vec.Iter.{into_iter_items, into_iter_len}
use Rattle.query_results.proofs.Answering.{AreShownSoFar}
use Rattle.query_results.proofs.answered.shown.Given as goal

abbrev pub invariant-loop-row : goal.invariant-loop-row
invariant-loop-row g l = AreShownSoFar (into_iter_items l.initial.row-iterator) l.yielded (into_iter_items l.row-iterator) l.rows (into_iter_len l.row-iterator)
