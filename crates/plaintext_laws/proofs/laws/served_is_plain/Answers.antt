use Rattle.plaintext_laws.proofs.Served.{served_is_plain}
use Rattle.plaintext_laws.proofs.laws.served_is_plain.Goals as goal

pub returns : goal.returns
returns c = served_is_plain c.laws_below.ensures
