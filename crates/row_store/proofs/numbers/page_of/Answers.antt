-- Half of the pages at a time.
use Rattle.std.proofs.Common.{◌≡◌, ◌+◌, ◌-◌, ◌/◌, ◌<◌, ◌≤◌, ◌∙◌, get_or, sym, subst, arith, List, ℕ}
use Rattle.std.proofs.lemmas.Bool.{ltb-true, ltb-false}
use Rattle.row_store.proofs.Numbering.{IsInside, inside_one, inside_some, inside_last, middle_some, first_half, second_half}
use Rattle.row_store.specs.Paged.{values}
use Rattle.row_store.proofs.Owned.{value_at, values_length}
use Rattle.row_store.proofs.numbers.page_of.Goals as goal

pub halves-init : goal.halves-init
halves-init c = record {
  within = omega arith;
  inside = subst (IsInside (values c.args.pages.now) c.args.number 0) (values_length c.args.pages.now) (inside_one (values c.args.pages.now) c.args.number c.requires.there);
}

pub starts_behind-requires : goal.starts_behind-requires
starts_behind-requires c =
    let h = c.halves.invariant in
    let middle = c.halves.low + (c.halves.high - c.halves.low) / 2 in
    let above : c.halves.low < middle = omega (arith, c.halves-test.true) in
    let below : middle < c.halves.high = omega (arith, c.halves-test.true) in
    rw c.rows.ensures
    (middle_some (values c.args.pages.now) c.args.number c.halves.low c.halves.high middle c.requires.rising.0
    c.requires.paged c.requires.rising.1 above below (omega (arith, h.within, values_length c.args.pages.now))
    h.inside c.index-pages-middle.result.value (value_at c.args.pages.now middle c.index-pages-middle.result c.index-pages-middle.is))

pub halves-preserved-then-starts_behind : goal.halves-preserved-then-starts_behind
halves-preserved-then-starts_behind c =
    let h = c.halves.invariant in
    let middle = c.halves.low + (c.halves.high - c.halves.low) / 2 in
    let above : c.halves.low < middle = omega (arith, c.halves-test.true) in
    let below : middle < c.halves.high = omega (arith, c.halves-test.true) in
    let page = c.index-pages-middle.result.value in
    let less : c.args.number < get_or page 0 0 = subst (λ (ns : List ℕ). c.args.number < get_or ns 0 0)
    c.rows.ensures (ltb-true c.args.number (get_or c.rows.result.now 0 0) (sym c.starts_behind.ensures ∙ c.if-starts_behind.true)) in
    record {
      within = omega (arith, below, h.within);
      inside = first_half (values c.args.pages.now) c.args.number c.halves.low c.halves.high middle c.requires.rising.0
          c.requires.paged c.requires.rising.1 above below (omega (arith, h.within, values_length c.args.pages.now))
          h.inside page (value_at c.args.pages.now middle c.index-pages-middle.result c.index-pages-middle.is) less;
    }

pub halves-preserved : goal.halves-preserved
halves-preserved c =
    let h = c.halves.invariant in
    let middle = c.halves.low + (c.halves.high - c.halves.low) / 2 in
    let above : c.halves.low < middle = omega (arith, c.halves-test.true) in
    let below : middle < c.halves.high = omega (arith, c.halves-test.true) in
    let page = c.index-pages-middle.result.value in
    let ge = ltb-false c.args.number (get_or c.rows.result.now 0 0) (sym c.starts_behind.ensures ∙ c.if-starts_behind.false) in
    let more : get_or page 0 0 ≤ c.args.number = subst (λ (ns : List ℕ). get_or ns 0 0 ≤ c.args.number) c.rows.ensures ge in
    record {
      within = h.within;
      inside = second_half (values c.args.pages.now) c.args.number c.halves.low c.halves.high middle
          c.requires.rising.0 c.requires.paged c.requires.rising.1 above below (omega (arith, h.within, values_length c.args.pages.now))
          h.inside page (value_at c.args.pages.now middle c.index-pages-middle.result c.index-pages-middle.is) more;
    }

pub returns-clause-there : goal.returns-clause-there
returns-clause-there c =
    let h = c.halves.invariant in
    inside_last (values c.args.pages.now) c.args.number c.halves.low c.halves.high (omega (arith, c.halves-test.false)) h.inside
