use Rattle.catalog.proofs.History.{not-reused}
use Rattle.catalog.proofs.laws.ids_are_not_reused.Goals as goal

pub returns : goal.returns
returns c = not-reused
