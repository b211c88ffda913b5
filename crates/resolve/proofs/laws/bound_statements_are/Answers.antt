use Rattle.resolve.proofs.BoundStatements.{bound_statements_are}
use Rattle.resolve.proofs.laws.bound_statements_are.Goals as goal

pub returns : goal.returns
returns c = λ catalog statement declarations b h. bound_statements_are catalog statement declarations b h
