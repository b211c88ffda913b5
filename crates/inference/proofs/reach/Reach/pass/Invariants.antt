use Rattle.inference.proofs.Passes.{IsPassing}
use Rattle.inference.proofs.reach.Reach.pass.Given as goal

abbrev pub invariant-loop-rule : goal.invariant-loop-rule
invariant-loop-rule l = IsPassing l.sites.params.now l.sites.columns.now l.rules l.initial.self l.self l.changed l.rule-index
