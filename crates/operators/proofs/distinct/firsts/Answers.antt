-- The next row is the first of its kind where no earlier one is alike.
use Rattle.std.proofs.Common.{[], map}
use Rattle.operators.specs.Found.{are_first}
use Rattle.operators.proofs.Firsts.{shown_of, firsts_more}
use Rattle.operators.proofs.distinct.firsts.Goals as goal

pub loop-found-preserved : goal.loop-found-preserved
loop-found-preserved g c =
    rw (c.in_ok-push.ensures.items, c.in_ok-insert.ensures.added, c.in_ok-insert.ensures.keys)
    (firsts_more (λ key. key.items) shown_of c.args.found.now c.loop-found.found-index c.found-item.result
    c.loop-found.seen.keys c.in_ok-atoms_of.field-0 c.loop-found.firsts.items (are_first [] (map shown_of c.args.found.now))
    c.loop-found-test.true c.found-item.is c.in_ok-atoms_of.ensures c.loop-found.invariant)
