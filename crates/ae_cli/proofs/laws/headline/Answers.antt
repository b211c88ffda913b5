use Rattle.ae_cli.proofs.Claimed.{headline}
use Rattle.ae_cli.proofs.laws.headline.Goals as goal

pub returns-clause-plain : goal.returns-clause-plain
returns-clause-plain c = headline c.clashes_exactly.ensures
