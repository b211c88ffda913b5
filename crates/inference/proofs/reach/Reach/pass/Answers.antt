-- From rule to rule.
use Rattle.std.proofs.Common.{arith}
use Rattle.inference.proofs.Passes.{passing_begins, passing_there, passed_settled}
use Rattle.inference.proofs.reach.Reach.pass.Goals as goal

pub loop-rule-init : goal.loop-rule-init
loop-rule-init c = passing_begins c.args.sites.now.params.now c.args.sites.now.columns.now c.args.rules.now c.args.self.now c.requires

pub loop-rule-preserved : goal.loop-rule-preserved
loop-rule-preserved c =
    rw c.either-changed.ensures
    (passing_there c.args.sites.now.params.now c.args.sites.now.columns.now c.args.rules.now c.args.self.now
    c.loop-rule.self c.settle.new.self c.loop-rule.changed c.in_ok-settle.field-0 c.loop-rule.rule-index
    _ (omega arith) c.loop-rule.invariant c.in_ok-settle.ensures.reached c.in_ok-settle.ensures.fewer c.in_ok-settle.ensures.same c.in_ok-settle.ensures.settled)

pub returns-clause-reached : goal.returns-clause-reached
returns-clause-reached c = c.loop-rule.invariant.reached

pub returns-clause-fewer : goal.returns-clause-fewer
returns-clause-fewer c = c.loop-rule.invariant.fewer

pub returns-clause-settled : goal.returns-clause-settled
returns-clause-settled c = passed_settled _ _ _ _ _ _ c.loop-rule.rule-index (omega arith) c.loop-rule.invariant
