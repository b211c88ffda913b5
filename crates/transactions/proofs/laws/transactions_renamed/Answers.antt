use Rattle.transactions.proofs.Renaming.{transact_renamed}
use Rattle.transactions.proofs.laws.transactions_renamed.Goals as goal

pub returns : goal.returns
returns c = transact_renamed
