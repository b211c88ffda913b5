use Rattle.listing_laws.proofs.Exchanges.{exchanges_alike}
use Rattle.listing_laws.proofs.laws.exchanges_listed_alike.Goals as goal

pub returns : goal.returns
returns c = exchanges_alike
