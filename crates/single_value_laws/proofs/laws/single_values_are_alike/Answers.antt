use Rattle.single_value_laws.proofs.Walk.{single_values_are_alike}
use Rattle.single_value_laws.proofs.laws.single_values_are_alike.Goals as goal

pub returns : goal.returns
returns c = single_values_are_alike c.bound_statements_are.ensures
