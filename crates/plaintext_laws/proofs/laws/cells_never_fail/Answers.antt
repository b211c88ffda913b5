use Rattle.plaintext_laws.proofs.NeverFails.{cells_never_fail}
use Rattle.plaintext_laws.proofs.laws.cells_never_fail.Goals as goal

pub returns : goal.returns
returns c = cells_never_fail c.laws_below.ensures c.served_is_plain.ensures
