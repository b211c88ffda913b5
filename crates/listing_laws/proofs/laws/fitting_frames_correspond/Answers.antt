use Rattle.listing_laws.proofs.Exchanges.{fitting}
use Rattle.listing_laws.proofs.laws.fitting_frames_correspond.Goals as goal

pub returns : goal.returns
returns c = fitting
