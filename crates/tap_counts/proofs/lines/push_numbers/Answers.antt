-- The numbers are those of the counts.
use Rattle.std.proofs.Common.{◌++◌, ◌∙◌, ap, string_bytes}
use Rattle.tap_counts.specs.Lines.{numbers_text}
use Rattle.tap_counts.proofs.lines.push_numbers.Goals as goal

pub returns : goal.returns
returns c =
    let before = string_bytes c.args.text.now in
    let n = c.args.counts.now in
    c.in_ok-write.ensures.bytes
    ∙ ap (λ m. before ++ numbers_text m c.nulls-nulls.result c.values-values.result) c.cells-cells.ensures
    ∙ ap (λ m. before ++ numbers_text n.cells m c.values-values.result) c.nulls-nulls.ensures
    ∙ ap (λ m. before ++ numbers_text n.cells n.nulls m) c.values-values.ensures
