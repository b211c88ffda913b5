use Rattle.view_command.proofs.Told.{told_by_entries}
use Rattle.view_command.proofs.laws.texts_are_of_entries.Goals as goal

pub returns : goal.returns
returns c = told_by_entries
