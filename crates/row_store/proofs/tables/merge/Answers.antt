-- The page takes the rows of the next one, and both are the table's own.
use Rattle.std.proofs.Common.{◌≡◌, ◌+◌, ◌<◌, ◌++◌, length, length-append, get_or, slice_set, arith, ap, refl, sym, true, ◌∙◌}
use Rattle.std.specs.Prelude.{remove}
use Rattle.row_store.specs.Paged.{Owned, values, can_merge}
use Rattle.row_store.proofs.Owned.{own_here, value_at, values_length, values_remove, values_set}
use Rattle.row_store.proofs.Packing.{merged_none, merged_some, can_merge_within, can_merge_fits}
use Rattle.row_store.proofs.Ready.{own_before, ready_first, ready_merged, ready_next}
use Rattle.row_store.proofs.tables.merge.Goals as goal

pub returns-then-not-can_merge-clause-pages : goal.returns-then-not-can_merge-clause-pages
returns-then-not-can_merge-clause-pages g c =
    let t = rw c.as_slice.ensures.value at c.can_merge.ensures in
    sym (merged_none c.args.page (values c.args.pages.now.items) (sym t ∙ c.if-not-can_merge.true))

pub remove-next-requires : goal.remove-next-requires
remove-next-requires g c =
    let t = rw c.as_slice.ensures.value at c.can_merge.ensures in
    let pages = c.args.pages.now.items in
    omega (arith, can_merge_within c.args.page (values pages) (sym t ∙ c.if-not-can_merge.false), values_length pages, c.args.pages.now.ok.0)

pub take_all-requires-clause-fits : goal.take_all-requires-clause-fits
take_all-requires-clause-fits g c =
    let t = rw c.as_slice.ensures.value at c.can_merge.ensures in
    let f = rw c.remove-next.ensures.items at c.index_mut.ensures.value in
    let pages = c.args.pages.now.items in
    let page = c.args.page in
    let rows = c.index_mut.result.now in
    let next = c.remove-next.result in
    let fv = value_at (remove pages (page + 1)) page rows f ∙ ap (λ vs. get_or vs page rows.value) (values_remove pages (page + 1)) in
    can_merge_fits page (values pages) rows.value next.value (sym t ∙ c.if-not-can_merge.false) fv (value_at pages (page + 1) next c.remove-next.ensures.value)

pub take_all-requires-clause-own : goal.take_all-requires-clause-own
take_all-requires-clause-own g c =
    let t = rw c.as_slice.ensures.value at c.can_merge.ensures in
    let f = rw c.remove-next.ensures.items at c.index_mut.ensures.value in
    let pages = c.args.pages.now.items in
    let can : can_merge c.args.page (values pages) ≡ true = sym t ∙ c.if-not-can_merge.false in
    let lt : c.args.page + 1 < length pages = omega (arith, can_merge_within c.args.page (values pages) can, values_length pages) in
    own_before c.args.page pages c.index_mut.result.now lt (ready_first c.args.page pages c.requires.ready can) f

pub take_all-requires-clause-other : goal.take_all-requires-clause-other
take_all-requires-clause-other g c =
    let t = rw c.as_slice.ensures.value at c.can_merge.ensures in
    let pages = c.args.pages.now.items in
    let can : can_merge c.args.page (values pages) ≡ true = sym t ∙ c.if-not-can_merge.false in
    let lt : c.args.page + 1 < length pages = omega (arith, can_merge_within c.args.page (values pages) can, values_length pages) in
    own_here pages (c.args.page + 1) c.remove-next.result lt c.remove-next.ensures.value (ready_next c.args.page pages c.requires.ready can)

pub returns-clause-pages : goal.returns-clause-pages
returns-clause-pages g c =
    let t = rw c.as_slice.ensures.value at c.can_merge.ensures in
    let f = rw c.remove-next.ensures.items at c.index_mut.ensures.value in
    let pages = c.args.pages.now.items in
    let page = c.args.page in
    let rows = c.index_mut.result.now in
    let next = c.remove-next.result in
    let new : Owned _ = record { value = rows.value ++ next.value; own = true } in
    let fv = value_at (remove pages (page + 1)) page rows f ∙ ap (λ vs. get_or vs page rows.value) (values_remove pages (page + 1)) in
    rw (c.remove-next.ensures.items, c.take_all.ensures)
    (values_set (remove pages (page + 1)) page new ∙ ap (λ vs. slice_set vs page new.value) (values_remove pages (page + 1))
    ∙ merged_some page (values pages) rows.value next.value (sym t ∙ c.if-not-can_merge.false) fv (value_at pages (page + 1) next c.remove-next.ensures.value))

pub returns-clause-ready : goal.returns-clause-ready
returns-clause-ready g c =
    let t = rw c.as_slice.ensures.value at c.can_merge.ensures in
    let f = rw c.remove-next.ensures.items at c.index_mut.ensures.value in
    let pages = c.args.pages.now.items in
    let page = c.args.page in
    let rows = c.index_mut.result.now in
    let next = c.remove-next.result in
    let new : Owned _ = record { value = rows.value ++ next.value; own = true } in
    let can : can_merge page (values pages) ≡ true = sym t ∙ c.if-not-can_merge.false in
    let lt : page + 1 < length pages = omega (arith, can_merge_within page (values pages) can, values_length pages) in
    rw (c.remove-next.ensures.items, c.take_all.ensures) (ready_merged page pages rows next new lt c.requires.ready f c.remove-next.ensures.value refl (length-append rows.value next.value))
