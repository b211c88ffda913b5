use Rattle.std.proofs.Common.{◌≡◌}
use Rattle.std.specs.Bool.{Decides, one_answer}
use Rattle.std.specs.Str.{bytes_eq, chars}
use Rattle.std.proofs.lemmas.Slice.Eq.{bytes_eq-Decides}
use Rattle.sql_tree.specs.Tokens.{in_capitals}
use Rattle.sql_tree.proofs.Capitals.{reads_from_lower, lower_from_reads}
use Rattle.sql_tree.proofs.words.reads_as.Goals as goal

pub returns : goal.returns
returns c =
    let text = c.args.text.now in
    let capitals = c.args.capitals.now in
    let test = c.eq_ignore_ascii_case.ensures.test in
    let word = in_capitals (chars text) in
    let here : Decides c.eq_ignore_ascii_case.result (capitals ≡ word) =
    (λ h. reads_from_lower text capitals c.requires (test.0 h), λ h. test.1 (lower_from_reads text capitals c.utf8.text c.requires h)) in
    one_answer c.eq_ignore_ascii_case.result (bytes_eq capitals word) here (bytes_eq-Decides capitals word)
