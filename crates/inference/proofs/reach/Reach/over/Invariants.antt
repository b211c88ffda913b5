use Rattle.inference.specs.Steps.{loose}
use Rattle.inference.specs.Reached.{typing_of, IsReached}
use Rattle.inference.proofs.reach.Reach.over.Given as goal

abbrev pub invariant-passes : goal.invariant-passes
invariant-passes l = IsReached l.sites.params.now l.sites.columns.now l.rules l.reach

abbrev pub decreases-passes : goal.decreases-passes
decreases-passes l = loose (typing_of l.sites.columns.now l.reach) l.rules
