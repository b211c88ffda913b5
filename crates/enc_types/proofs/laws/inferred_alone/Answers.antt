use Rattle.enc_types.proofs.UsedAlone.{inferred_alone}
use Rattle.enc_types.proofs.laws.inferred_alone.Goals as goal

pub returns : goal.returns
returns c = λ bound encs placed h. inferred_alone bound encs placed h
