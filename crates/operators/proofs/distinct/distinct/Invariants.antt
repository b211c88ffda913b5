-- What was kept so far.
use Rattle.std.specs.Vec.Iter.{into_iter_items, into_iter_len}
use Rattle.operators.proofs.Firsts.{AreKept}
use Rattle.operators.proofs.distinct.distinct.Given as goal

abbrev pub invariant-loop-row : goal.invariant-loop-row
invariant-loop-row g l = AreKept (into_iter_items l.initial.row-iterator) l.yielded (into_iter_items l.row-iterator) l.kept.items l.firsts.items (into_iter_len l.row-iterator) l.at
