-- The rule is one of the list.
use Rattle.std.proofs.Common.{arith}
use Rattle.inference.proofs.Passes.{among_there}
use Rattle.inference.proofs.reach.Reach.broken.Goals as goal

pub returns-then-not-meets-clause-among : goal.returns-then-not-meets-clause-among
returns-then-not-meets-clause-among c = among_there c.args.rules.now c.loop-rule.rule-index _ (omega arith)
