-- The characters that were given are those of the name, and a bracket ends it.
use Rattle.std.proofs.Common.{◌++◌, ◌∙◌, ap, codes, flat_map, map-id, refl, string_bytes}
use Rattle.std.specs.Str.{chars}
use Rattle.std.proofs.lemmas.Iterator.{YieldsList-from_chars}
use Rattle.std.proofs.lemmas.Iterator.Consumers.{YieldsList-end}
use Rattle.column_rotate.proofs.Spelled.{bracketed_bytes, name_put}
use Rattle.column_rotate.proofs.texts.push_name.Goals as goal

pub returns : goal.returns
returns c =
    let chain = YieldsList-from_chars c.args.name.now c.utf8.name cc in
    let t = YieldsList-end chain c.loop-c.yielded _ c.loop-c.yielded_by _ _ c.in-None.is c.next.ensures.steps in
    name_put (string_bytes c.args.text.now)
    (string_bytes c.args.text.now ++ codes "[") (string_bytes c.loop-c.text) _ (chars c.args.name.now) refl
    (c.loop-c.invariant ∙ ap (λ cs. (string_bytes c.args.text.now ++ codes "[") ++ flat_map bracketed_bytes cs) (simp map-id at t.0)) c.in_ok-push_str-2.ensures.bytes
