-- The key is gone, and the others have their numbers.
use Rattle.std.proofs.Common.{map, None, ap, sym, ◌∙◌}
use Rattle.key_index.specs.Levels.{number_under}
use Rattle.key_index.proofs.Entries.{nothing, one_said, one_unsaid}
use Rattle.key_index.proofs.index.KeyIndex.remove.Goals as goal

pub returns-clause-number : goal.returns-clause-number
returns-clause-number g c =
    let u = c.in-Ok.ensures.updates in
    rw (← c.self.view_is)
    (one_said c.self.inside.top.entries c.insert.new.self.entries c.args.key u.3 None u.1
    (number_under (map (λ l. l.value.entries) c.self.inside.below.items)))

pub returns-then-not-is_below-clause-number : goal.returns-then-not-is_below-clause-number
returns-then-not-is_below-clause-number g c =
    let u = c.swap_remove.ensures.updates in
    rw (← c.self.view_is)
    (one_unsaid c.self.inside.top.entries c.swap_remove.new.self.entries c.args.key u.3 u.1
    (number_under (map (λ l. l.value.entries) c.self.inside.below.items))
    (ap (λ ls. number_under (map (λ l. l.value.entries) ls) c.args.key) (sym c.as_slice.ensures.value)
    ∙ sym c.number_below.ensures ∙ nothing c.number_below.result (sym c.is_some-is_below.ensures ∙ c.if-not-is_below.true)))
