-- The rows stay.
use Rattle.std.proofs.Common.{length, arith, ap, sym, ◌∙◌}
use Rattle.row_store.proofs.numbered.Numbered.make_writable.Goals as goal

pub invariant_of-self : goal.invariant_of-self
invariant_of-self g c =
    let h = c.self.invariant in
    record {
      each = h.each ∙ ap length (sym c.make_writable.ensures.rows);
      rising = h.rising;
      room = (omega (arith, h.room.0, c.make_writable.ensures.spare), h.room.1);
      fits = h.fits;
    }
