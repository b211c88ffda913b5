use Rattle.listing_laws.proofs.Exchanges.{narrower}
use Rattle.listing_laws.proofs.laws.answers_are_narrower.Goals as goal

pub returns : goal.returns
returns c = narrower
