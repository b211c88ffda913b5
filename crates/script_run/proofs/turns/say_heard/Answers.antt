-- It is said, or there is none.
use Rattle.std.proofs.Common.{refl}
use Rattle.conversation.specs.declared.outcomes.Outcome.TheVariants.{Defined}
use Rattle.script_run.proofs.Going.{stay}
use Rattle.script_run.proofs.Turning.{nothing_said}
use Rattle.script_run.proofs.turns.say_heard.Goals as goal

pub returns-in-Some-clause-leads : goal.returns-in-Some-clause-leads
returns-in-Some-clause-leads g c = λ onward. let e = c.in-Some.is in rw e (c.say.ensures.leads onward)

pub returns-in-None-clause-leads : goal.returns-in-None-clause-leads
returns-in-None-clause-leads g c = λ onward. let e = c.in-None.is in let n = nothing_said c.args.aloud (onward Defined) in rw (e, n) (stay _ _)

pub returns-in-Some-clause-keys : goal.returns-in-Some-clause-keys
returns-in-Some-clause-keys g c = c.say.ensures.keys

pub returns-in-None-clause-keys : goal.returns-in-None-clause-keys
returns-in-None-clause-keys g c = refl
