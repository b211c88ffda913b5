-- The characters that were given are those of the text.
use Rattle.std.proofs.Common.{◌∙◌, ap, map-id}
use Rattle.std.proofs.lemmas.Iterator.{YieldsList-from_chars}
use Rattle.std.proofs.lemmas.Iterator.Consumers.{YieldsList-end}
use Rattle.value_norm.specs.Norm.{utf16le}
use Rattle.value_norm.proofs.utf16.utf16le.Goals as goal

pub returns : goal.returns
returns c =
    let chain = YieldsList-from_chars c.args.text.now c.utf8.text cc in
    let t = YieldsList-end chain c.loop-character.yielded _ c.loop-character.yielded_by _ _ c.in-None.is c.next.ensures.steps in
    c.loop-character.invariant ∙ ap utf16le (simp map-id at t.0)
