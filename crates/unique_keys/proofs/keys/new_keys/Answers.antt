-- The keys of one index more, or the index refuses them.
use Rattle.std.proofs.Common.{◌+◌, [], not, ap, ◌∙◌}
use Rattle.std.specs.Prelude.{is_some}
use Rattle.unique_keys.proofs.Admission.{one_indexed, one_distinct, one_refuses, none_more, keys_more, found_one}
use Rattle.unique_keys.proofs.keys.new_keys.Goals as goal

pub returns-in-None-clause-answer : goal.returns-in-None-clause-answer
returns-in-None-clause-answer g c = λ known there hits to e r h d k.
    let indexes = c.args.indexes.now in
    let i = c.loop-i.i in
    let index = c.index-indexes-i.result in
    let lt = c.loop-i-test.true in
    let is = c.index-indexes-i.is in
    let twins = c.in_ok-keys.ensures.new known there hits to e r (one_indexed known there [] indexes i index lt is h)
    (one_distinct known there [] indexes i index lt is d) k ∙ ap (λ o. not (is_some o)) c.in-None.is in
    found_one _ (i + 1) _ _ (one_refuses known there _ indexes i index lt is (c.loop-i.invariant.none known there hits to e r h d k) twins) c.numbered.ensures

pub loop-i-preserved : goal.loop-i-preserved
loop-i-preserved g c =
    let indexes = c.args.indexes.now in
    let i = c.loop-i.i in
    let index = c.index-indexes-i.result in
    let lt = c.loop-i-test.true in
    let is = c.index-indexes-i.is in
    record {
      keys = c.in_ok-push-in-Some.ensures.ok ∙ keys_more [] [] [] indexes i index lt is c.loop-i.all _ c.in-Some.keys c.loop-i.invariant.keys (rw c.in-Some.is at c.in_ok-keys.ensures.keys);
      none = λ known there hits to e r h d k.
          let differ = c.in_ok-keys.ensures.new known there hits to e r (one_indexed known there [] indexes i index lt is h)
          (one_distinct known there [] indexes i index lt is d) k ∙ ap (λ o. not (is_some o)) c.in-Some.is in
          none_more known there _ indexes i index lt is (c.loop-i.invariant.none known there hits to e r h d k) differ;
    }
