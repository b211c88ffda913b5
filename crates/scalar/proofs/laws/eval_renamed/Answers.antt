use Rattle.scalar.proofs.Renaming.{eval_moved}
use Rattle.scalar.proofs.laws.eval_renamed.Goals as goal

pub returns : goal.returns
returns c = eval_moved
