-- One row more.
use Rattle.std.proofs.Common.{◌≡◌, ◌≤◌, ◌-◌, ◌+◌, ◌∷◌, [], length, get_or, map, refl, ap, sym, subst, ◌∙◌, arith}
use Rattle.std.proofs.lemmas.List.{map-append}
use Rattle.row_store.specs.Paged.{flat, values}
use Rattle.row_store.proofs.Marking.{AreLent, lent_more, lent_over}
use Rattle.row_store.proofs.Owned.{value_at}
use Rattle.row_store.proofs.Paging.{place_inside, place_read}
use Rattle.row_store.proofs.tables.lent_at.Goals as goal

pub get-requires : goal.get-requires
get-requires g c =
    let pages = c.args.pages.now in
    let page = c.index-pages-near.result in
    let p = get_or c.args.places.now c.loop-place.place-index 0 in
    place_inside (values pages) p c.seek-near.result.page (p - c.seek-near.result.before) page.value c.seek-near.ensures.place (value_at pages c.seek-near.result.page page c.index-pages-near.is)

pub loop-place-preserved : goal.loop-place-preserved
loop-place-preserved g c =
    let pages = c.args.pages.now in
    let page = c.index-pages-near.result in
    let i = c.loop-place.place-index in
    let p = get_or c.args.places.now i 0 in
    let at = p - c.seek-near.result.before in
    let row = c.get.result in
    let is = c.get.ensures row.now ∙ place_read (values pages) p c.seek-near.result.page at page.value row.now
    c.seek-near.ensures.place (value_at pages c.seek-near.result.page page c.index-pages-near.is) in
    let more = lent_more (flat pages) c.args.places.now i p (map (λ row. row.now) c.loop-place.rows.items) c.loop-place-test.true refl c.loop-place.invariant.lent row.now is in
    record {
      lent = subst (AreLent (flat pages) c.args.places.now (i + 1)) (sym (ap (map (λ row. row.now)) c.in_ok-push.ensures.items ∙ map-append (λ row. row.now) c.loop-place.rows.items (row ∷ []))) more;
      near = c.seek-near.ensures.start;
    }

pub returns : goal.returns
returns g c =
    lent_over (flat c.args.pages.now) c.args.places.now c.loop-place.place-index (map (λ row. row.now) c.loop-place.rows.items) (omega (arith, c.loop-place-test.false)) c.loop-place.invariant.lent
