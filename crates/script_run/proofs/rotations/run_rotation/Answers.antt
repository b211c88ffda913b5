-- One batch more, or what it came to.
use Rattle.std.proofs.Common.{ap, ◌∙◌}
use Rattle.driver.specs.Clients.{session_of}
use Rattle.column_rotate.specs.Moves.{Rotating}
use Rattle.column_rotate.specs.Rotating.{heard, told_of}
use Rattle.script_run.proofs.Going.{stay, breaks_between, goes_then, fails_then}
use Rattle.script_run.proofs.Leaving.{others_same, others_then}
use Rattle.script_run.proofs.Rotating.{heard_blind, now_on}
use Rattle.script_run.proofs.rotations.run_rotation.Goals as goal

pub returns-in-Err-clause-leads : goal.returns-in-Err-clause-leads
returns-in-Err-clause-leads g c = λ k. breaks_between _ _ _ _ (stay _ _)

pub batches-init : goal.batches-init
batches-init g c =
    let e = c.in-Ok.ensures in
    record {
      of_vault = c.requires;
      others = others_same _ c.args.driver.now;
      session = ap (λ (r : Rotating). r.session) e;
      from = ap (λ (r : Rotating). r.from) e;
      into = ap (λ (r : Rotating). r.into) e;
      goes = λ k. stay _ _;
    }

pub batches-preserved : goal.batches-preserved
batches-preserved g c = record {
  of_vault = c.in-Ok-run.ensures.leaves.of_vault;
  others = others_then _ c.args.driver.now c.batches.driver c.run.new.driver c.batches.invariant.others c.in-Ok-run.ensures.leaves.others;
  session = c.in-Ok-Send.ensures.session ∙ c.batches.invariant.session;
  from = c.in-Ok-Send.ensures.from ∙ c.batches.invariant.from;
  into = c.in-Ok-Send.ensures.into ∙ c.batches.invariant.into;
  goes = λ k.
      let r = c.in-Ok-run.ensures.leads
      (λ comes columns after. heard c.args.driver.now.trusted c.args.number c.args.old.now c.args.new.now k c.next_of.new.rotation.sent columns (told_of comes) after)
      (heard_blind c.args.driver.now.trusted c.args.number c.args.old.now c.args.new.now k c.next_of.new.rotation.sent) in
      let e = c.batches.invariant.others.1 in
      let t = c.told_of.ensures in
      rw t (goes_then _ _ _ _ _ _
      (now_on c.args.driver.now.trusted c.args.number _ c.args.old.now _ c.args.new.now _ k c.batches.driver
      c.batches.invariant.session c.batches.invariant.from c.batches.invariant.into _ _ _ _ _ _ _ _
      c.in-Ok-Send.field-0-is (c.batches.invariant.goes k) (c.in-Ok-Send.ensures.leads c.args.driver.now.trusted k (session_of c.batches.driver c.args.number))) (rw e at r));
}

pub returns-in-Ok-Finished-clause-leads : goal.returns-in-Ok-Finished-clause-leads
returns-in-Ok-Finished-clause-leads g c = λ k. now_on c.args.driver.now.trusted c.args.number _ c.args.old.now
    _ c.args.new.now _ k c.batches.driver c.batches.invariant.session c.batches.invariant.from c.batches.invariant.into
    _ _ _ _ _ _ _ _ c.in-Ok-Finished.field-0-is (c.batches.invariant.goes k) (c.in-Ok-Finished.ensures.leads c.args.driver.now.trusted k (session_of c.batches.driver c.args.number))

pub returns-in-Ok-Failed-clause-leads : goal.returns-in-Ok-Failed-clause-leads
returns-in-Ok-Failed-clause-leads g c = λ k. now_on c.args.driver.now.trusted c.args.number _ c.args.old.now _
    c.args.new.now _ k c.batches.driver c.batches.invariant.session c.batches.invariant.from c.batches.invariant.into
    _ _ _ _ _ _ _ _ c.in-Ok-Failed.field-0-is (c.batches.invariant.goes k) (c.in-Ok-Failed.ensures.leads c.args.driver.now.trusted k (session_of c.batches.driver c.args.number))

pub returns-in-Err-next_of-clause-leads : goal.returns-in-Err-next_of-clause-leads
returns-in-Err-next_of-clause-leads g c = λ k. breaks_between _ _ _ _ (c.batches.invariant.goes k)

pub returns-in-Err-run-clause-leads : goal.returns-in-Err-run-clause-leads
returns-in-Err-run-clause-leads g c = λ k.
    let r = c.in-Err-run.ensures.leads
    (λ comes columns after. heard c.args.driver.now.trusted c.args.number c.args.old.now c.args.new.now k c.next_of.new.rotation.sent columns (told_of comes) after)
    (heard_blind c.args.driver.now.trusted c.args.number c.args.old.now c.args.new.now k c.next_of.new.rotation.sent) in
    let e = c.batches.invariant.others.1 in
    fails_then _ _ _ _ _ _
    (now_on c.args.driver.now.trusted c.args.number _ c.args.old.now _ c.args.new.now _ k c.batches.driver
    c.batches.invariant.session c.batches.invariant.from c.batches.invariant.into _ _ _ _ _ _ _ _
    c.in-Ok-Send.field-0-is (c.batches.invariant.goes k) (c.in-Ok-Send.ensures.leads c.args.driver.now.trusted k (session_of c.batches.driver c.args.number))) (rw e at r)

pub returns-clause-leads : goal.returns-clause-leads
returns-clause-leads g c = λ k. rw c.from.ensures (breaks_between _ _ _ _ (c.batches.invariant.goes k))
