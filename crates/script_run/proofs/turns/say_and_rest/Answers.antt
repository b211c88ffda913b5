-- It is said, and the rest is heard.
use Rattle.conversation.specs.Turns.{rested}
use Rattle.driver.specs.Clients.{session_of}
use Rattle.script_run.proofs.Going.{leads_then}
use Rattle.script_run.proofs.turns.say_and_rest.Goals as goal

pub rest-requires : goal.rest-requires
rest-requires g c = let e = c.in-Ok.ensures.keys in rw e c.requires

pub returns-in-Ok-clause-leads : goal.returns-in-Ok-clause-leads
returns-in-Ok-clause-leads g c = λ k. leads_then _ _ _ (λ o. k o _) _ _ _ (c.in-Ok.ensures.leads (λ o. rested c.args.aloud (k o) (session_of c.args.driver.now c.args.number))) (c.rest.ensures.leads k)

pub returns-in-Err-clause-leads : goal.returns-in-Err-clause-leads
returns-in-Err-clause-leads g c = λ k. c.in-Err.ensures.leads (λ o. rested c.args.aloud (k o) (session_of c.args.driver.now c.args.number))

pub returns-in-Ok-clause-keeps : goal.returns-in-Ok-clause-keeps
returns-in-Ok-clause-keeps g c = c.rest.ensures.keeps

pub returns-in-Err-clause-keeps : goal.returns-in-Err-clause-keeps
returns-in-Err-clause-keeps g c = tt
