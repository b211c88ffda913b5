use Rattle.command_words.proofs.Taken.{taken_command}
use Rattle.command_words.proofs.commands.taken_words_are_commands.Goals as goal

pub returns : goal.returns
returns c = taken_command
