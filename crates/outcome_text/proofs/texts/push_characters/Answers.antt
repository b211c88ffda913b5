-- What stands before a ' is put whole, and the ' twice.
use Rattle.outcome_text.proofs.Printed.{cut_at, more_cut, plain_part, last_part}
use Rattle.outcome_text.proofs.texts.push_characters.Goals as goal

pub loop-before-preserved : goal.loop-before-preserved
loop-before-preserved c =
    let found = c.in-Some.ensures.cases in
    let cut = cut_at c.loop-before.rest.now found.0 found.1 c.loop-before.invariant.0 found.2 in
    more_cut _ c.loop-before.rest.now c.in-Some.before.now c.in-Some.behind.now _ _ _ found.0 found.1 cut found.3 found.4 c.loop-before.invariant.1
    c.in_ok-push_str-2.ensures.bytes c.in_ok-push_str-3.ensures.bytes

pub returns : goal.returns
returns c =
    let plain = plain_part c.loop-before.rest.now c.loop-before.invariant.0 c.in_default.ensures.cases in
    last_part _ _ c.loop-before.rest.now _ _ _ c.loop-before.invariant.1 plain c.in_ok-push_str-4.ensures.bytes c.in_ok-push_str-5.ensures.bytes
