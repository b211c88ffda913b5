use Rattle.inference.proofs.Exactness.{inferred_exactly, refused_at_first}
use Rattle.inference.proofs.laws.inferred_exactly.Goals as goal

pub returns-clause-exact : goal.returns-clause-exact
returns-clause-exact c = λ bound. inferred_exactly bound

pub returns-clause-first : goal.returns-clause-first
returns-clause-first c = λ bound at h. refused_at_first bound at h
