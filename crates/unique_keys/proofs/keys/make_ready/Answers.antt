-- The keys are new, and there is room for them.
use Rattle.std.proofs.lemmas.Result.{err_from_is_err_and}
use Rattle.unique_keys.proofs.keys.make_ready.Goals as goal

pub returns-in_err-keys-clause-answer : goal.returns-in_err-keys-clause-answer
returns-in_err-keys-clause-answer g c = λ known there hits to e r i d k.
    let p = err_from_is_err_and c.from_residual.result c.from_residual.ensures.1 in
    let answer = rw c.as_slice.ensures.value at c.in_err-keys.ensures.answer in
    rw (p.1, p.2) (answer known there hits to e r i d k)

pub returns-clause-keys : goal.returns-clause-keys
returns-clause-keys g c = rw c.as_slice.ensures.value at c.in_ok-keys.ensures.keys

pub returns-clause-answer : goal.returns-clause-answer
returns-clause-answer g c = rw c.as_slice.ensures.value at c.in_ok-keys.ensures.answer
