use Rattle.listing_laws.proofs.Twins.{are_listed_alike}
use Rattle.listing_laws.proofs.laws.twins_are_listed_alike.Goals as goal

pub returns : goal.returns
returns c = are_listed_alike c.twins_alike.ensures c.exchanges_listed_alike.ensures
