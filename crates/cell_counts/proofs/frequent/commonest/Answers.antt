-- One more cell is among the best, or isn't.
use Rattle.std.proofs.Common.{get_or, refl}
use Rattle.cell_counts.proofs.Best.{goes_on}
use Rattle.cell_counts.proofs.frequent.commonest.Goals as goal

pub loop-number-preserved : goal.loop-number-preserved
loop-number-preserved c =
    goes_on c.loop-number.best.items c.index.new.best.items c.loop-number.number (get_or c.args.numbers.now c.loop-number.number 0)
    c.args.numbers.now c.loop-number-test.true refl c.in_ok-index.ensures c.loop-number.invariant
