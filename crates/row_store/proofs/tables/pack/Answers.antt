-- A page more.
use Rattle.std.proofs.Common.{◌≡◌, ◌+◌, ◌-◌, arith, length, refl, ◌∙◌}
use Rattle.row_store.specs.Paged.{values}
use Rattle.row_store.proofs.Owned.{values_length}
use Rattle.row_store.proofs.Thinning.{pack_start, pack_more, pack_within, pack_done}
use Rattle.row_store.proofs.tables.pack.Goals as goal

pub loop-page-init : goal.loop-page-init
loop-page-init g c =
    let pages = c.args.pages.now.items in
    let n : c.len-page.result ≡ length (values pages) = omega (arith, c.len-page.ensures, c.args.pages.now.ok.0, values_length pages) in
    record { so_far = pack_start (values pages) c.len-page.result (omega (arith, n)); within = omega (arith, n); ready = c.requires; capacity = refl }

pub merge-requires-clause-page : goal.merge-requires-clause-page
merge-requires-clause-page g c =
    let one : c.loop-page.page - 1 + 1 ≡ c.loop-page.page = omega (arith, c.loop-page-test.true) in
    let now = c.loop-page.pages.items in
    omega (arith, pack_within (values c.args.pages.now.items) (values now) c.loop-page.page (c.loop-page.page - 1) one c.loop-page.invariant.within c.loop-page.invariant.so_far, values_length now)

pub loop-page-preserved : goal.loop-page-preserved
loop-page-preserved g c =
    let h = c.loop-page.invariant in
    let one : c.loop-page.page - 1 + 1 ≡ c.loop-page.page = omega (arith, c.loop-page-test.true) in
    let within = h.within in
    record {
      so_far = pack_more (values c.args.pages.now.items) (values c.loop-page.pages.items) (values c.merge.new.pages.items)
          c.loop-page.page (c.loop-page.page - 1) one within h.so_far c.merge.ensures.pages;
      within = omega (arith, within);
      ready = c.merge.ensures.ready;
      capacity = c.merge.ensures.capacity ∙ h.capacity;
    }

pub returns-clause-pages : goal.returns-clause-pages
returns-clause-pages g c = pack_done (values c.args.pages.now.items) (values c.loop-page.pages.items) c.loop-page.page (omega (arith, c.loop-page-test.false)) c.loop-page.invariant.so_far
