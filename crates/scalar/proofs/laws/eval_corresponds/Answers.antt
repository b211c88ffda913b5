use Rattle.scalar.specs.Classes.{Listing}
use Rattle.scalar.proofs.Correspondence.{eval_alike}
use Rattle.scalar.proofs.laws.eval_corresponds.Goals as goal

pub returns : goal.returns
returns c = λ entries. eval_alike (Listing entries)
