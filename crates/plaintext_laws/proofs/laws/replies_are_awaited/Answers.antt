use Rattle.plaintext_laws.proofs.Awaited.{replies_are_awaited}
use Rattle.plaintext_laws.proofs.laws.replies_are_awaited.Goals as goal

pub returns : goal.returns
returns c = replies_are_awaited c.laws_below.ensures
