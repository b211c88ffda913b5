-- As the number stands in the matches.
use Rattle.std.proofs.Common.{refl}
use Rattle.std.specs.Str.Parse.{ExplainsUnsignedError, HasUnsignedDigitsIfOk, ParsesUnsigned}
use Rattle.clap.specs.Words.{found_of}
use Rattle.command_words.proofs.Matched.{size_found}
use Rattle.command_words.proofs.commands.gen_in.Goals as goal

pub returns-in-Some : goal.returns-in-Some
returns-in-Some c = size_found (λ text r. ParsesUnsigned 32 10 text r × ExplainsUnsignedError 10 text r × HasUnsignedDigitsIfOk text r)
    (λ text r g. g.0) (found_of c.args.matches.now) c.in-Some.rows _ refl c.in-Some.ensures.none c.in-Some.ensures.value
