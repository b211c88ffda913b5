use Rattle.catalog.proofs.History.{numbered-alike, told}
use Rattle.catalog.proofs.laws.keys_are_told.Goals as goal

pub returns : goal.returns
returns c = record { numbered = numbered-alike; told = told }
