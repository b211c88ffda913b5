-- The best so far, and the cells that are left, give the best of all.
use Rattle.std.proofs.Common.{◌≡◌, [], drop}
use Rattle.cell_counts.specs.Counts.{commonest}
use Rattle.cell_counts.proofs.frequent.commonest.Given as goal

abbrev pub invariant-loop-number : goal.invariant-loop-number
invariant-loop-number l = commonest l.best.items l.number (drop l.number l.numbers) ≡ commonest [] 0 l.numbers
