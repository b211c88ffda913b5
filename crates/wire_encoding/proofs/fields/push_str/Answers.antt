-- A text is UTF-8, so its characters spell its bytes.
use Rattle.std.proofs.Common.{rules, subst}
use Rattle.std.specs.Str.{IsUtf8}
use Rattle.std.proofs.lemmas.Str.{encodes-chars}
use Rattle.wire_encoding.proofs.fields.push_str.Goals as goal

pub returns : goal.returns
returns c = let e = encodes-chars c.args.text.now (subst IsUtf8 c.as_bytes.ensures.value c.as_bytes.ensures.utf8) in rw e (search rules)
