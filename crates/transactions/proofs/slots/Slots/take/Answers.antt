-- The slot is emptied.
use Rattle.std.proofs.Common.{◌<◌, ◌≤◌, ◌-◌, length, set, None, sym, ap, ◌∙◌, arith}
use Rattle.transactions.specs.Slots.{Slots, slots_of}
use Rattle.transactions.proofs.Padding.{padded_set, emptied_past}
use Rattle.transactions.proofs.slots.Slots.take.Goals as goal

pub returns-then-place-len-clause-after : goal.returns-then-place-len-clause-after
returns-then-place-len-clause-after g c =
    let held = c.self.inside.held.items in
    let le : length held ≤ c.place_of-place.result = omega (arith, c.len.ensures, c.if-place-len.true) in
    ap (λ (s : Slots). s.transactions) (sym c.self.view_is) ∙ emptied_past held c.place_of-place.result le ∙ ap (λ k. set (slots_of held) k None) c.place_of-place.ensures.value
    ∙ ap (λ (s : Slots). set s.transactions (c.args.session - 1) None) c.self.view_is

pub returns-clause-after : goal.returns-clause-after
returns-clause-after g c =
    let held = c.self.inside.held.items in
    let lt : c.place_of-place.result < length held = omega (arith, c.len.ensures, c.if-place-len.false) in
    ap (λ x. slots_of (set held c.place_of-place.result x)) c.take.ensures.after ∙ padded_set held c.place_of-place.result None lt ∙ ap (λ k. set (slots_of held) k None) c.place_of-place.ensures.value
    ∙ ap (λ (s : Slots). set s.transactions (c.args.session - 1) None) c.self.view_is
