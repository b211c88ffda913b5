-- The two pages are there, or the page is the last.
use Rattle.std.proofs.Common.{◌≤◌, ◌+◌, ◌<◌, length, arith, sym, ap, ◌∙◌}
use Rattle.std.specs.Prelude.{nat_le}
use Rattle.row_store.specs.Paged.{values}
use Rattle.row_store.proofs.Owned.{value_at, values_length}
use Rattle.row_store.proofs.Packing.{can_merge_last, can_merge_there}
use Rattle.row_store.proofs.tables.can_merge.Goals as goal

pub returns-then-page-pages : goal.returns-then-page-pages
returns-then-page-pages g c =
    let le : length (values c.args.pages.now) ≤ c.args.page + 1 = omega (arith, c.if-page-pages.true, values_length c.args.pages.now) in
    sym (can_merge_last c.args.page (values c.args.pages.now) le)

pub returns : goal.returns
returns g c =
    let pages = c.args.pages.now in
    let lt : c.args.page + 1 < length (values pages) = omega (arith, c.if-page-pages.false, values_length pages) in
    ap (λ n. nat_le (n + c.len-2.result) 256) c.len.ensures.len ∙ ap (λ n. nat_le (length c.index-pages-page.result.value + n) 256) c.len-2.ensures.len
    ∙ can_merge_there c.args.page (values pages) c.index-pages-page.result.value c.index-pages-page-2.result.value lt
    (value_at pages c.args.page c.index-pages-page.result c.index-pages-page.is) (value_at pages (c.args.page + 1) c.index-pages-page-2.result c.index-pages-page-2.is)
