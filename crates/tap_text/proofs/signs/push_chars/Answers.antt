-- The characters that were given are those of the text.
use Rattle.std.proofs.Common.{◌∙◌, ◌++◌, ap, map-id, string_bytes}
use Rattle.std.proofs.lemmas.Iterator.{YieldsList-from_chars}
use Rattle.std.proofs.lemmas.Iterator.Consumers.{YieldsList-end}
use Rattle.tap_text.specs.Text.{chars_text}
use Rattle.tap_text.proofs.signs.push_chars.Goals as goal

pub returns : goal.returns
returns c =
    let chain = YieldsList-from_chars c.args.characters.now c.utf8.characters cc in
    let t = YieldsList-end chain c.loop-c.yielded _ c.loop-c.yielded_by _ _ c.in-None.is c.next.ensures.steps in
    c.loop-c.invariant ∙ ap (λ cs. string_bytes c.args.text.now ++ chars_text c.args.page cs) (simp map-id at t.0)
