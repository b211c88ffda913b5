use Rattle.catalog.proofs.History.{itself, transitive, defined_by-followed}
use Rattle.catalog.proofs.laws.definitions_are_followed.Goals as goal

pub returns : goal.returns
returns c = record { each = λ old new d definable. defined_by-followed old new d; none = itself; several = transitive }
