-- The rows and their numbers stay.
use Rattle.std.proofs.Common.{length, arith, ap, subst, sym, ◌∙◌}
use Rattle.row_store.specs.Numbers.{AreRising}
use Rattle.row_store.proofs.numbered.Numbered.seal.Goals as goal

pub invariant_of-self : goal.invariant_of-self
invariant_of-self g c =
    let h = c.self.invariant in
    record {
      each = ap length c.seal-2.ensures ∙ h.each ∙ ap length (sym c.seal.ensures);
      rising = subst (AreRising 0 c.self.inside.next) (sym c.seal-2.ensures) h.rising;
      room = (omega arith, omega arith);
      fits = omega (arith, h.fits);
    }
