use Rattle.enc_types.proofs.Renaming.{rules_renamed}
use Rattle.enc_types.proofs.laws.rules_renamed.Goals as goal

pub returns : goal.returns
returns c = λ f params bound. rules_renamed f params bound
