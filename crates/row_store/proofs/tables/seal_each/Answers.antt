-- One page more is sealed.
use Rattle.std.proofs.Common.{◌∙◌}
use Rattle.row_store.proofs.Owned.{values_same}
use Rattle.row_store.proofs.tables.seal_each.Goals as goal

pub loop-page-preserved : goal.loop-page-preserved
loop-page-preserved g c =
    let h = c.loop-page.invariant in
    record { values = values_same c.loop-page.pages.items c.loop-page.page c.index_mut.result.now c.seal.new.self c.index_mut.ensures.value c.seal.ensures ∙ h.values; capacity = h.capacity }
