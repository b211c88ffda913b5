use Rattle.twin_laws.proofs.TwinsAlike.{twins_alike}
use Rattle.twin_laws.proofs.laws.twins_alike.Goals as goal

pub returns : goal.returns
returns c = twins_alike c.laws_below.ensures c.replies_are_carried_alike.ensures
