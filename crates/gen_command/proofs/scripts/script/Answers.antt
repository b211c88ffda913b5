-- The definitions, the rows and the reads.
use Rattle.std.proofs.Common.{◌≡◌, ◌++◌, ℕ, List, refl, sym, ap, ◌∙◌}
use Rattle.gen_command.specs.Script.{script, text_of, definition_lines, all_row_lines, read_lines}
use Rattle.gen_command.proofs.Lines.{text_append}
use Rattle.gen_command.proofs.scripts.script.Goals as goal

whole : (first second new rows : List ℕ) (size : ℕ) → rows ≡ text_of (all_row_lines size size)
    → first ≡ text_of definition_lines → second ≡ first ++ rows → new ≡ second ++ text_of read_lines → new ≡ script size
unfolding script
whole first second new rows size r e f g =
    g ∙ rw (f, e, r) (sym (text_append (definition_lines ++ all_row_lines size size) read_lines ∙ ap (λ t. t ++ text_of read_lines) (text_append definition_lines (all_row_lines size size))))

pub returns : goal.returns
returns c = whole _ _ _ _ c.args.size refl c.in_ok-text.ensures.ok c.in_ok-push_rows.ensures c.in_ok-push_str.ensures.bytes
