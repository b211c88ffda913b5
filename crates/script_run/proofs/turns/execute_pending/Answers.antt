-- It is executed, and its outcome was said.
use Rattle.std.proofs.Common.{refl}
use Rattle.conversation.specs.Turns.{after_all}
use Rattle.script_run.proofs.turns.execute_pending.Goals as goal

pub execute-requires : goal.execute-requires
execute-requires g c = c.requires

pub returns-in-Ok-clause-leads : goal.returns-in-Ok-clause-leads
returns-in-Ok-clause-leads g c = λ k. c.in-Ok.ensures.leads (after_all k) (λ comes after. refl)

pub returns-in-Err-clause-leads : goal.returns-in-Err-clause-leads
returns-in-Err-clause-leads g c = λ k. c.in-Err.ensures.leads (after_all k) (λ comes after. refl)

pub returns-in-Ok-clause-leaves : goal.returns-in-Ok-clause-leaves
returns-in-Ok-clause-leaves g c = c.in-Ok.ensures.leaves

pub returns-in-Err-clause-leaves : goal.returns-in-Err-clause-leaves
returns-in-Err-clause-leaves g c = tt
