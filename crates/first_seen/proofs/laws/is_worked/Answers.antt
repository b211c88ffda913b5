use Rattle.std.proofs.Common.{refl}
use Rattle.first_seen.proofs.laws.is_worked.Goals as goal

pub returns : goal.returns
returns c = refl
