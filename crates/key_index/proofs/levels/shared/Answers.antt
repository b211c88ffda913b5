-- One level more.
use Rattle.std.proofs.Common.{ap}
use Rattle.key_index.proofs.Entries.{map_more}
use Rattle.key_index.proofs.levels.shared.Goals as goal

pub loop-level-preserved : goal.loop-level-preserved
loop-level-preserved g c =
    map_more (λ level. level.value.entries) c.args.levels.now
    c.loop-level.copy.items c.push.new.self.items c.loop-level.level-index c.in_ok-clone.field-0 c.level-item.result c.in_ok-push.ensures.items
    (ap (λ v. v.entries) c.in_ok-clone.ensures.cases) c.loop-level.invariant c.loop-level-test.true c.level-item.is
