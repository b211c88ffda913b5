-- The last entry is said again, until none is left.
use Rattle.std.proofs.Common.{ap, sym, arith, ◌∙◌}
use Rattle.key_index.specs.Levels.{number_through}
use Rattle.key_index.specs.Numbers.{number_at}
use Rattle.key_index.proofs.Entries.{said_last, through_empty}
use Rattle.key_index.proofs.index.KeyIndex.pour.Goals as goal

pub loop-key-preserved : goal.loop-key-preserved
loop-key-preserved g c =
    let h = c.loop-key.invariant in
    record {
      so_far = λ key. h.so_far key ∙ ap (λ es. number_through es (number_at c.loop-key.self) key) c.in-Some.ensures.entries
          ∙ said_last c.pop.new.self.entries c.in-Some.key c.in-Some.said (number_at c.loop-key.self) (number_at c.say.new.self) c.say.ensures.number key;
      room = omega (arith, h.room, c.in-Some.ensures.len, c.say.ensures.room);
    }

pub returns : goal.returns
returns g c = λ key. sym (c.loop-key.invariant.so_far key ∙ through_empty c.loop-key.level.entries (number_at c.loop-key.self) key c.in_default.ensures.found.1)
