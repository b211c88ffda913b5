-- One slot that isn't empty, or none.
use Rattle.std.proofs.Common.{◌≡◌, ◌<◌, ◌≤◌, ℕ, List, length, get_or, take, replicate, refl, ap, sym, subst, ◌∙◌, arith, Option, Some, None, false, true}
use Rattle.std.specs.Prelude.{is_some}
use Rattle.std.proofs.lemmas.List.{take_all}
use Rattle.transactions.specs.Slots.{Slots}
use Rattle.transactions.proofs.Padding.{all_empty, one_empty}
use Rattle.transactions.proofs.slots.Slots.is_idle.Goals as goal

none_there : {A : Type 0} (o : Option A) → o ≡ None → is_some o ≡ true → ⊥
none_there None e t = cc
none_there (Some x) e t = cc

not_true : false ≡ true → ⊥
not_true e = cc

all_none : {A : Type 0} (xs ys : List (Option A)) (k : ℕ) → xs ≡ ys → take k xs ≡ replicate k None → length ys ≤ k → k ≤ length xs → ys ≡ replicate (length ys) None
all_none xs ys k same e many few =
    let n : k ≡ length ys = omega (arith, many, few, ap length same) in
    sym (take_all k ys many) ∙ ap (take k) (sym same) ∙ e ∙ ap (λ (m : ℕ). replicate m None) n

pub returns-then-is_some : goal.returns-then-is_some
returns-then-is_some g c =
    let items = c.self.inside.held.items in
    let same = c.deref-slot-items.ensures.value in
    let lt : c.loop-slot.slot-index < length items = subst (λ xs. c.loop-slot.slot-index < length xs) same c.loop-slot-test.true in
    let is = c.slot-item.is ∙ ap (λ xs. get_or xs c.loop-slot.slot-index c.slot-item.result) same in (
      λ e. absurd (not_true e),
      λ idle. absurd (none_there c.slot-item.result (is ∙ one_empty items c.loop-slot.slot-index c.slot-item.result c.self.invariant lt (ap (λ (s : Slots). s.transactions) c.self.view_is ∙ idle))
          (sym c.is_some.ensures ∙ c.if-is_some.true)),
    )

pub returns : goal.returns
returns g c =
    let items = c.self.inside.held.items in
    let same = c.deref-slot-items.ensures.value in
    let many : length items ≤ c.loop-slot.slot-index = subst (λ xs. length xs ≤ c.loop-slot.slot-index) same c.loop-slot-test.false in
    let empty = all_none c.deref-slot-items.result.now items c.loop-slot.slot-index same c.loop-slot.invariant many c.loop-slot.auto.slot-index-end in
    (λ t. sym (ap (λ (s : Slots). s.transactions) c.self.view_is) ∙ all_empty items c.self.invariant empty, λ idle. refl)
