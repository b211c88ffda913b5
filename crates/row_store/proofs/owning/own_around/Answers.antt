-- One place more.
use Rattle.std.proofs.Common.{◌≡◌, ◌<◌, ◌-◌, ℕ, length, get_or, refl, ap, sym, subst, ◌∙◌, arith}
use Rattle.std.proofs.lemmas.List.Elements.{All-nil}
use Rattle.row_store.specs.Paged.{IsPlace, IsRemovable, joined, flat, values, rows_before}
use Rattle.row_store.proofs.Owned.{All_all, All_get, All_more, All_taken, removable_here, removable_stays}
use Rattle.row_store.proofs.owning.own_around.Goals as goal

pub loop-place-init : goal.loop-place-init
loop-place-init g c = record {
  near = c.first-near.ensures.before ∙ ap (λ n. rows_before n (values c.args.pages.now.items)) (sym c.first-near.ensures.page);
  values = refl;
  kept = λ page own. own;
  capacity = refl;
  own = All-nil (IsRemovable c.args.pages.now.items);
}

pub seek-near-requires-clause-within : goal.seek-near-requires-clause-within
seek-near-requires-clause-within g c =
    let old = c.args.pages.now.items in
    let i = c.loop-place.place-index in
    let within : get_or c.args.places.now i 0 < length (flat old) = All_get (λ place. place < length (flat old)) c.args.places.now i 0 c.loop-place-test.true c.requires in
    rw c.as_slice.ensures.value (subst (λ vs. get_or c.args.places.now i 0 < length (joined vs)) (sym c.loop-place.invariant.values) within)

pub loop-place-preserved : goal.loop-place-preserved
loop-place-preserved g c =
    let h = c.loop-place.invariant in
    let pages = c.loop-place.pages.items in
    let new = c.own_near.new.pages.items in
    let i = c.loop-place.place-index in
    let p = get_or c.args.places.now i 0 in
    let page = c.seek-near.result.page in
    let at = p - c.seek-near.result.before in
    let same : values new ≡ values pages = c.own_near.ensures.values in
    let place = rw c.as_slice.ensures.value at c.seek-near.ensures.place in
    let here = removable_here new p page at (subst (λ vs. IsPlace vs p page at) (sym same) place) c.in_ok-own_near.ensures.before c.in_ok-own_near.ensures.own c.in_ok-own_near.ensures.next in
    record {
      near = c.seek-near.ensures.start ∙ ap (λ ps. rows_before page (values ps)) c.as_slice.ensures.value ∙ ap (rows_before page) (sym same);
      values = same ∙ h.values;
      kept = λ page own. c.own_near.ensures.kept page (h.kept page own);
      capacity = c.own_near.ensures.capacity ∙ h.capacity;
      own = All_taken (IsRemovable new) c.args.places.now i 0 c.loop-place-test.true
          (All_more (IsRemovable pages) (IsRemovable new) (removable_stays pages new same c.own_near.ensures.kept) _ h.own) here;
    }

pub returns-clause-own : goal.returns-clause-own
returns-clause-own g c = All_all (IsRemovable c.loop-place.pages.items) c.args.places.now c.loop-place.place-index (omega (arith, c.loop-place-test.false)) c.loop-place.invariant.own
