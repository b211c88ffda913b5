-- One key more.
use Rattle.std.proofs.Common.{length, ap, sym, ◌∙◌, arith}
use Rattle.key_index.specs.Numbers.{number_at, taken_out}
use Rattle.key_index.proofs.Entries.{taken_next, taken_over}
use Rattle.key_index.proofs.index.KeyIndex.remove_all.Goals as goal

pub loop-key-init : goal.loop-key-init
loop-key-init g c =
    let same = c.into_iter-key-iterator.ensures.into_iter_gives.0 ∙ c.into_vec-key-items.ensures in
    record {
      so_far = λ key. ap (taken_out key (number_at c.args.self.now key)) (sym same);
      room = omega (arith, ap length same, c.requires);
      used = omega (arith, ap length same);
    }

pub loop-key-preserved : goal.loop-key-preserved
loop-key-preserved g c =
    let h = c.loop-key.invariant in
    let is = c.in-Some.ensures.steps.0 in
    record {
      so_far = λ key. h.so_far key ∙ taken_next key c.in-Some.key (number_at c.loop-key.self key)
          (number_at c.remove.new.self key) c.loop-key.key-iterator.rest.items c.next.new.self.rest.items is (c.remove.ensures.number key);
      room = omega (arith, h.room, ap length is, c.remove.ensures.room);
      used = omega (arith, h.used, ap length is, c.remove.ensures.room);
    }

pub returns-clause-numbers : goal.returns-clause-numbers
returns-clause-numbers g c = λ key.
    let h = c.loop-key.invariant in
    sym (h.so_far key ∙ taken_over key (number_at c.loop-key.self key) c.loop-key.key-iterator.rest.items (omega (arith, c.in-None.ensures.steps.0, c.loop-key.key-iterator.rest.ok.0)))
