use Rattle.resolve.proofs.KeptWhole.{prepared_alone}
use Rattle.resolve.proofs.laws.prepared_alone.Goals as goal

pub returns : goal.returns
returns c = λ catalog statement declarations b encs h k. prepared_alone catalog statement declarations b encs h k
