use Rattle.scalar.specs.Classes.{Listing}
use Rattle.scalar.proofs.Correspondence.{truth_alike}
use Rattle.scalar.proofs.laws.truth_corresponds.Goals as goal

pub returns : goal.returns
returns c = λ entries. truth_alike (Listing entries)
