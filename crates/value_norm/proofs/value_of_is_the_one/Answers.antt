use Rattle.value_norm.proofs.Inverse.{value_of-the_one}
use Rattle.value_norm.proofs.value_of_is_the_one.Goals as goal

pub returns : goal.returns
returns c = value_of-the_one
