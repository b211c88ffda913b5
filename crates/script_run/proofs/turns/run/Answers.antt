-- It is described, and executed where that isn't refused.
use Rattle.std.specs.Prelude.{None}
use Rattle.conversation.specs.declared.outcomes.Outcome.TheVariants.{Defined}
use Rattle.conversation.specs.declared.sessions.Session.TheVariants.{Pending}
use Rattle.conversation.specs.Turns.{executing}
use Rattle.script_run.proofs.Leaving.{leaves_then}
use Rattle.script_run.proofs.Turning.{aside_none, refused_goes, then_executed}
use Rattle.script_run.proofs.turns.run.Goals as goal

pub describe-requires : goal.describe-requires
describe-requires g c = c.requires

pub execute-requires : goal.execute-requires
execute-requires g c = c.in-Ok-Ready.ensures.leaves.of_vault

pub returns-in-Ok-Ready-clause-leads : goal.returns-in-Ok-Ready-clause-leads
returns-in-Ok-Ready-clause-leads g c = λ k blind.
    let h = c.in-Ok-Ready.ensures.leads (λ p. executing c.args.aloud c.args.driver.now.trusted c.args.number (Pending p) k) k in
    let r = c.in-Ok-Ready.ensures.ready in
    let n = c.in-Ok-Ready.ensures.cleared in
    let x = c.execute.ensures.leads k (aside_none k _ (rw c.in-Ok-Ready.field-0-is at n)) in
    let e = c.in-Ok-Ready.ensures.leaves.others.1 in
    then_executed _ _ (rw c.in-Ok-Ready.field-0-is at r) _ _ _ _ c.args.aloud k (k Defined None) c.args.driver.now.trusted c.args.number _ (λ o. k o _ _) (rw c.in-Ok-Ready.field-0-is at h) (rw e at x)

pub returns-in-Ok-Refused-clause-leads : goal.returns-in-Ok-Refused-clause-leads
returns-in-Ok-Refused-clause-leads g c = λ k blind.
    let h = c.in-Ok-Refused.ensures.leads (λ p. executing c.args.aloud c.args.driver.now.trusted c.args.number (Pending p) k) k in
    let n = c.in-Ok-Refused.ensures.cleared in
    refused_goes k blind _ _ _ (rw c.in-Ok-Refused.field-0-is at n) _ _ _ (rw c.in-Ok-Refused.field-0-is at h)

pub returns-clause-leads : goal.returns-clause-leads
returns-clause-leads g c = λ k blind. c.in-Err.ensures.leads (λ p. executing c.args.aloud c.args.driver.now.trusted c.args.number (Pending p) k) k

pub returns-in-Ok-Ready-clause-leaves : goal.returns-in-Ok-Ready-clause-leaves
returns-in-Ok-Ready-clause-leaves g c = leaves_then _ _ _ _ _ _ c.in-Ok-Ready.ensures.leaves.others c.execute.ensures.leaves

pub returns-in-Ok-Refused-clause-leaves : goal.returns-in-Ok-Refused-clause-leaves
returns-in-Ok-Refused-clause-leaves g c = c.in-Ok-Refused.ensures.leaves

pub returns-clause-leaves : goal.returns-clause-leaves
returns-clause-leaves g c = tt
