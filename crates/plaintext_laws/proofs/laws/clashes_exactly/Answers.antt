use Rattle.plaintext_laws.proofs.Clashing.{clashes_exactly}
use Rattle.plaintext_laws.proofs.laws.clashes_exactly.Goals as goal

pub returns : goal.returns
returns c = clashes_exactly c.inferred_exactly.ensures.exact c.inferred_exactly.ensures.first
