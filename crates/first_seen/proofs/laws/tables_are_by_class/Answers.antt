use Rattle.first_seen.proofs.ByClass.{by_class}
use Rattle.first_seen.proofs.laws.tables_are_by_class.Goals as goal

pub returns : goal.returns
returns c = by_class
