use Rattle.first_seen.proofs.Streaming.{numbers_on}
use Rattle.first_seen.proofs.laws.numbers_go_on.Goals as goal

pub returns : goal.returns
returns c = numbers_on
