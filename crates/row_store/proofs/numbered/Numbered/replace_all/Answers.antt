-- There are as many rows.
use Rattle.std.proofs.Common.{length, arith, ap, sym, ◌∙◌}
use Rattle.row_store.proofs.Marking.{written_long}
use Rattle.row_store.proofs.numbered.Numbered.replace_all.Goals as goal

pub invariant_of-self : goal.invariant_of-self
invariant_of-self g c =
    let h = c.self.invariant in
    record {
      each = h.each ∙ sym (ap length c.replace_all.ensures.rows ∙ written_long c.self.inside.rows.rows c.args.changes);
      rising = h.rising;
      room = (omega (arith, h.room.0, c.replace_all.ensures.spare), h.room.1);
      fits = h.fits;
    }
