-- One key more.
use Rattle.std.proofs.Common.{length, get_or, refl, ap, sym, ◌∙◌, arith}
use Rattle.key_index.specs.Numbers.{number_at, put_in}
use Rattle.key_index.proofs.Entries.{put_more, put_over}
use Rattle.key_index.proofs.index.KeyIndex.put_all.Goals as goal

pub loop-key-init : goal.loop-key-init
loop-key-init g c =
    let same = c.into_iter-key-iterator.ensures.into_iter_gives.0 ∙ c.into_vec-key-items.ensures in
    record {
      so_far = λ key. ap (put_in key (number_at c.args.self.now key) c.args.numbers.now) (sym same);
      each = omega (arith, ap length same, c.requires.each);
      room = omega (arith, ap length same, c.requires.room);
    }

pub loop-key-preserved : goal.loop-key-preserved
loop-key-preserved g c =
    let h = c.loop-key.invariant in
    let is = c.in-Some.ensures.steps.0 in
    record {
      so_far = λ key. h.so_far key ∙ put_more key c.in-Some.key (number_at c.loop-key.self key)
          (number_at c.put.new.self key) c.args.numbers.now c.loop-key.key-iterator.rest.items c.next.new.self.rest.items
          c.loop-key.i (get_or c.args.numbers.now c.loop-key.i 0) 0 (omega (arith, h.each, ap length is)) refl is (c.put.ensures.number key);
      each = omega (arith, h.each, ap length is);
      room = omega (arith, h.room, ap length is, c.put.ensures.room);
    }

pub returns : goal.returns
returns g c = λ key.
    let h = c.loop-key.invariant in
    sym (h.so_far key ∙ put_over key (number_at c.loop-key.self key) _ c.loop-key.key-iterator.rest.items (omega (arith, c.in-None.ensures.steps.0, c.loop-key.key-iterator.rest.ok.0)))
