-- One level more.
use Rattle.std.proofs.Common.{ap, ◌∙◌}
use Rattle.key_index.specs.Levels.{number_through}
use Rattle.key_index.proofs.Entries.{under_more}
use Rattle.key_index.proofs.levels.number_below.Goals as goal

pub loop-level-preserved : goal.loop-level-preserved
loop-level-preserved g c =
    under_more (λ level. level.value.entries) c.args.below.now c.loop-level.level-index
    c.level-item.result c.args.key.now c.loop-level.found c.number_by-found.result c.loop-level-test.true c.level-item.is c.loop-level.invariant
    (λ before e. c.number_by-found.ensures before e ∙ ap (λ m. number_through m.entries before c.args.key.now) c.as_ref.ensures)
