use Rattle.value_norm.proofs.Norms.{norm-injective}
use Rattle.value_norm.proofs.norm_is_one_to_one.Goals as goal

pub returns : goal.returns
returns c = norm-injective
