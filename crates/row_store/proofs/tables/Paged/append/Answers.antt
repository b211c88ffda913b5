-- One row more, in the last page or a new one.
use Rattle.std.proofs.Common.{◌+◌, ◌∷◌, [], length, length-append, arith, ap}
use Rattle.row_store.specs.Paged.{flat}
use Rattle.row_store.proofs.tables.Paged.append.Goals as goal

pub push-requires-clause-own : goal.push-requires-clause-own
push-requires-clause-own g c = c.self.invariant.own (rw (← c.self.view_is) at c.requires)

pub invariant_of-self : goal.invariant_of-self
invariant_of-self g c =
    let h = c.self.invariant in
    let some = rw (← c.self.view_is) at c.requires in
    record {
      kept = c.push.ensures.kept;
      count = omega (arith, h.count, ap length c.push.ensures.rows, length-append (flat c.self.inside.pages.items) (c.args.row ∷ []));
      spare = omega (arith, h.spare, c.push.ensures.room, some);
      own = λ more. c.push.ensures.own;
      fits = omega (arith, h.fits, some);
    }
