-- The pages hold what they held.
use Rattle.std.proofs.Common.{length, arith, ap, sym, ◌∙◌}
use Rattle.row_store.specs.Paged.{Stored, joined}
use Rattle.row_store.proofs.Owned.{kept_same}
use Rattle.row_store.proofs.tables.Paged.seal.Goals as goal

pub invariant_of-self : goal.invariant_of-self
invariant_of-self g c =
    let h = c.self.invariant in
    let same = c.seal_each.ensures.values in
    record {
      kept = kept_same c.self.inside.pages.items c.seal_each.new.pages.items c.self.inside.ready.items _ _ same c.seal_each.ensures.capacity h.kept;
      count = h.count ∙ ap (λ vs. length (joined vs)) (sym same);
      spare = omega arith;
      own = λ some. absurd (omega (arith, some));
      fits = omega (arith, h.fits);
    }

pub returns : goal.returns
returns g c = ap joined c.seal_each.ensures.values ∙ ap (λ (s : Stored _). s.rows) c.self.view_is
