use Rattle.proper_value_laws.proofs.Serving.{tables_stay}
use Rattle.proper_value_laws.proofs.laws.proper_tables_stay.Goals as goal

pub returns : goal.returns
returns c = tables_stay c.texts_are_proper.ensures
