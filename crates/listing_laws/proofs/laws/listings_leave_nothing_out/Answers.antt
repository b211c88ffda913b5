use Rattle.listing_laws.proofs.Alike.{complete}
use Rattle.listing_laws.proofs.laws.listings_leave_nothing_out.Goals as goal

pub returns : goal.returns
returns c = complete
