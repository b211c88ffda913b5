-- The top says a number, or the levels below do.
use Rattle.std.proofs.Common.{map, ap, ◌∙◌}
use Rattle.key_index.specs.Levels.{number_through, number_under}
use Rattle.key_index.proofs.index.KeyIndex.number_of.Goals as goal

pub returns : goal.returns
returns g c =
    rw (← c.self.view_is)
    (c.number_by.ensures (number_under (map (λ level. level.value.entries) c.as_slice.result.now)) c.number_below.ensures
    ∙ ap (λ ls. number_through c.self.inside.top.entries
    (number_under (map (λ level. level.value.entries) ls)) c.args.key.now) c.as_slice.ensures.value)
