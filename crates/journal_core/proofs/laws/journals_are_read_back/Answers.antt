use Rattle.journal_core.proofs.Totality.{read_back}
use Rattle.journal_core.proofs.laws.journals_are_read_back.Goals as goal

pub returns : goal.returns
returns c = read_back
