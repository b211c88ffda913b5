use Rattle.value_norm.proofs.Norms.{norm-bounded}
use Rattle.value_norm.proofs.norm_is_bounded.Goals as goal

pub returns : goal.returns
returns c = norm-bounded
