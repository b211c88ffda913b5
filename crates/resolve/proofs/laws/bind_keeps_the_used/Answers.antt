use Rattle.resolve.proofs.KeptWhole.{bind_keeps_the_used}
use Rattle.resolve.proofs.laws.bind_keeps_the_used.Goals as goal

pub returns : goal.returns
returns c = bind_keeps_the_used
