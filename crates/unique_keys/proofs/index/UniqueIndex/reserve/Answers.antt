-- The keys stay.
use Rattle.std.proofs.Common.{◌∙◌}
use Rattle.unique_keys.proofs.index.UniqueIndex.reserve.Goals as goal

pub returns-clause-rows : goal.returns-clause-rows
returns-clause-rows g c = λ numbers rows i.
    let before = rw (← c.self.view_is) at i in
    λ key. c.reserve.ensures.same key ∙ before key
