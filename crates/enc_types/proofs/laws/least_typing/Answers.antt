use Rattle.enc_types.proofs.Merging.{least_of}
use Rattle.enc_types.proofs.laws.least_typing.Goals as goal

pub returns : goal.returns
returns c = λ params columns rules h. least_of params columns rules h
