use Rattle.semantic_checks.proofs.RenamedChecks.{checks_keep_the_used}
use Rattle.semantic_checks.proofs.laws.checks_keep_the_used.Goals as goal

pub returns : goal.returns
returns c = λ f params bound h. checks_keep_the_used f params bound h
