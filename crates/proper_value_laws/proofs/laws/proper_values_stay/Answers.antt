use Rattle.proper_value_laws.proofs.Storing.{values_stay}
use Rattle.proper_value_laws.proofs.laws.proper_values_stay.Goals as goal

pub returns : goal.returns
returns c = values_stay
