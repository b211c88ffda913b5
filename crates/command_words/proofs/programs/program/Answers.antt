-- One subcommand after the other.
use Rattle.std.proofs.Common.{◌∙◌}
use Rattle.std.proofs.lemmas.Result.{IfOk-weaker}
use Rattle.command_words.proofs.Program.{added, described, required, whole}
use Rattle.command_words.proofs.programs.program.Goals as goal

pub returns : goal.returns
returns c =
    let none = required _ _ _ (described _ _ _ _ c.new.ensures.app c.about.ensures) c.subcommand_required.ensures in
    let one = added _ _ _ _ _ none c.in_ok-run.ensures c.in_ok-subcommand.ensures in
    let two = added _ _ _ _ _ one c.in_ok-serve.ensures c.in_ok-subcommand-2.ensures in
    let three = added _ _ _ _ _ two c.in_ok-drive.ensures c.in_ok-subcommand-3.ensures in
    let four = added _ _ _ _ _ three c.bare-check.ensures c.in_ok-subcommand-4.ensures in
    let five = added _ _ _ _ _ four c.in_ok-wrap.ensures c.in_ok-subcommand-5.ensures in
    IfOk-weaker c.subcommand-6.result _ _ (λ r h. added _ _ _ _ _ five c.in_ok-gen_script.ensures h ∙ whole) c.subcommand-6.ensures
