-- The levels are the same, and the top says the same.
use Rattle.std.proofs.Common.{map, ap, ◌∙◌}
use Rattle.key_index.specs.Levels.{number_through, number_under}
use Rattle.key_index.specs.Numbers.{number_at}
use Rattle.key_index.proofs.index.KeyIndex.copy.Goals as goal

pub returns : goal.returns
returns g c = λ key.
    c.in_ok-copied.ensures (number_under (map (λ level. level.value.entries) c.in_ok-shared.field-0.items)) key
    ∙ ap (λ ls. number_through c.self.inside.top.entries (number_under ls) key)
    (c.in_ok-shared.ensures ∙ ap (map (λ level. level.value.entries)) c.as_slice.ensures.value)
    ∙ ap (λ v. number_at v key) c.self.view_is
