use Rattle.listing_laws.proofs.Alike.{exactly}
use Rattle.listing_laws.proofs.laws.listings_show_what_is_seen.Goals as goal

pub returns : goal.returns
returns c = exactly
