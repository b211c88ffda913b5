-- As `clap` takes the words or refuses them.
use Rattle.std.proofs.Common.{◌∙◌, ap, map}
use Rattle.clap.specs.Words.{app_of}
use Rattle.command_words.proofs.Matched.{found_there, refused, taken}
use Rattle.command_words.proofs.commands.command_of.Goals as goal

pub found_in-requires : goal.found_in-requires
found_in-requires c =
    let parse = c.in-Ok in
    let spelled = ap (map (λ text. text.now)) c.as_slice.ensures.value ∙ c.in_ok-words.ensures in
    found_there (app_of c.in_ok-program.program) _ c.args.words.now c.in_ok-program.ensures spelled parse.matches parse.ensures.matches parse.ensures.kinds

pub returns-in-Ok : goal.returns-in-Ok
returns-in-Ok c =
    let parse = c.in-Ok in
    let spelled = ap (map (λ text. text.now)) c.as_slice.ensures.value ∙ c.in_ok-words.ensures in
    taken (app_of c.in_ok-program.program) _ c.args.words.now c.in_ok-program.ensures spelled parse.matches c.found_in.result parse.ensures.matches parse.ensures.kinds c.found_in.ensures

pub returns : goal.returns
returns c =
    let spelled = ap (map (λ text. text.now)) c.as_slice.ensures.value ∙ c.in_ok-words.ensures in
    refused (app_of c.in_ok-program.program) _ c.args.words.now c.in_ok-program.ensures spelled c.in-Err.error c.refusal_of.result c.in-Err.ensures.passes c.refusal_of.ensures
