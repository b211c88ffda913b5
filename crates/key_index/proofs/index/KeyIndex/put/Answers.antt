-- The key has its number, and the others have theirs.
use Rattle.std.proofs.Common.{map, Some}
use Rattle.key_index.specs.Levels.{number_under}
use Rattle.key_index.proofs.Entries.{one_said}
use Rattle.key_index.proofs.index.KeyIndex.put.Goals as goal

pub returns-clause-number : goal.returns-clause-number
returns-clause-number g c =
    let u = c.in-Ok.ensures.updates in
    rw (← c.self.view_is)
    (one_said c.self.inside.top.entries c.insert.new.self.entries c.args.key u.3 (Some c.args.number) u.1
    (number_under (map (λ l. l.value.entries) c.self.inside.below.items)))
