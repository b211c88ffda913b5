use Rattle.frame_laws.proofs.Carrying.{carried_alike}
use Rattle.frame_laws.proofs.laws.replies_are_carried_alike.Goals as goal

pub returns : goal.returns
returns c = carried_alike
