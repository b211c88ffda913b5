-- The characters of the text.
use Rattle.std.proofs.Common.{refl, sym, ◌∙◌}
use Rattle.std.proofs.lemmas.Str.{chars_from_encodes, IsUtf8-string_bytes}
use Rattle.column_rotate.proofs.parameters.batch_of.Goals as goal

pub returns : goal.returns
returns c = λ characters e.
    let t = c.from_string.ensures ∙ sym (chars_from_encodes characters _ (IsUtf8-string_bytes c.args.text) (sym e)) in
    let f = c.new.ensures in
    rw (t, f) refl
