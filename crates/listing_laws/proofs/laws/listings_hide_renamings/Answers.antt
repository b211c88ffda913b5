use Rattle.listing_laws.proofs.Alike.{hidden}
use Rattle.listing_laws.proofs.laws.listings_hide_renamings.Goals as goal

pub returns : goal.returns
returns c = hidden
