-- The rows and their numbers stay.
use Rattle.std.proofs.Common.{length, arith, ap, subst, sym, ◌∙◌}
use Rattle.row_store.specs.Numbers.{AreRising}
use Rattle.row_store.proofs.Owned.{on_any}
use Rattle.row_store.proofs.numbered.Numbered.make_removable.Goals as goal

pub invariant_of-self : goal.invariant_of-self
invariant_of-self g c =
    let h = c.self.invariant in
    record {
      each = h.each ∙ ap length (sym c.make_removable.ensures.rows);
      rising = h.rising;
      room = (omega (arith, h.room.0, c.make_removable.ensures.spare), h.room.1);
      fits = h.fits;
    }

pub invariant_of-self-2 : goal.invariant_of-self-2
invariant_of-self-2 g c =
    let h = c.self.invariant in
    record {
      each = ap length c.make_removable-2.ensures.rows ∙ h.each ∙ ap length (sym c.make_removable.ensures.rows);
      rising = subst (AreRising 0 c.self.inside.next) (sym c.make_removable-2.ensures.rows) h.rising;
      room = (omega (arith, h.room.0, c.make_removable.ensures.spare), omega (arith, h.room.1, c.make_removable-2.ensures.spare));
      fits = h.fits;
    }

pub returns-clause-own : goal.returns-clause-own
returns-clause-own g c = on_any c.make_removable-2.result c.in_ok-make_removable.ensures.own
