-- The next number is greater than those before it.
use Rattle.std.proofs.Common.{◌+◌, length, length-append, arith, ap, subst, sym, ◌∷◌, []}
use Rattle.row_store.specs.Numbers.{AreRising}
use Rattle.row_store.proofs.Rising.{rising_next}
use Rattle.row_store.proofs.numbered.Numbered.append.Goals as goal

pub invariant_of-self : goal.invariant_of-self
invariant_of-self g c =
    let h = c.self.invariant in
    let next = c.self.inside.next in
    let some = rw (← c.self.view_is) at c.requires in
    record {
      each = omega (
        arith,
        h.each,
        ap length c.append.ensures.rows,
        ap length c.append-2.ensures.rows,
        length-append
            c.self.inside.rows.rows (c.args.row ∷ []),
        length-append c.self.inside.numbers.rows (next ∷ []),
      );
      rising = subst (AreRising 0 (next + 1)) (sym c.append-2.ensures.rows) (rising_next 0 next c.self.inside.numbers.rows h.rising);
      room = (omega (arith, h.room.0, c.append.ensures.spare, some), omega (arith, h.room.1, c.append-2.ensures.spare, some));
      fits = omega (arith, h.fits, some);
    }
