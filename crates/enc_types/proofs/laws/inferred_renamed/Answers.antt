use Rattle.enc_types.proofs.UsedParams.{inferred_alike}
use Rattle.enc_types.proofs.laws.inferred_renamed.Goals as goal

pub returns : goal.returns
returns c = λ f g params bound h. inferred_alike f g params bound h
