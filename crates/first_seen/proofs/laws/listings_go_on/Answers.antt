use Rattle.first_seen.proofs.Streaming.{part_by_part}
use Rattle.first_seen.proofs.laws.listings_go_on.Goals as goal

pub returns : goal.returns
returns c = λ k seen parts more. part_by_part k seen parts more
