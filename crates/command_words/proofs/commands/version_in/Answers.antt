-- As the value stands in the matches.
use Rattle.std.proofs.Common.{refl}
use Rattle.clap.specs.Words.{found_of}
use Rattle.clap.proofs.WalkLemmas.{first_value-rows}
use Rattle.command_words.proofs.commands.version_in.Goals as goal

pub returns-in-Some : goal.returns-in-Some
returns-in-Some c = rw (← first_value-rows (found_of c.args.matches.now) _, ← c.in-Some.ensures) refl

pub returns-in-None : goal.returns-in-None
returns-in-None c = rw (← first_value-rows (found_of c.args.matches.now) _, ← c.in-None.ensures) refl
