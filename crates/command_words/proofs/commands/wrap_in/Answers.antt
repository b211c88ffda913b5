-- As the path stands in the matches.
use Rattle.clap.specs.Words.{found_of}
use Rattle.command_words.proofs.Matched.{no_path, path_found}
use Rattle.command_words.proofs.commands.wrap_in.Goals as goal

pub unreachable-requires : goal.unreachable-requires
unreachable-requires c = no_path (found_of c.args.matches.now) c.in-None.ensures c.requires

pub returns : goal.returns
returns c = path_found (found_of c.args.matches.now) c.in-Some.path _ c.in-Some.ensures c.in_ok-copied-in-Some.ensures
