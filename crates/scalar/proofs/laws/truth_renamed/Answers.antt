use Rattle.scalar.proofs.Renaming.{truth_moved}
use Rattle.scalar.proofs.laws.truth_renamed.Goals as goal

pub returns : goal.returns
returns c = truth_moved
