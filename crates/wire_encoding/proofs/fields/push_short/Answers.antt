-- A text is UTF-8, so its characters spell its bytes, with four bytes each at most.
use Rattle.std.proofs.Common.{rules, subst, ap, length, arith}
use Rattle.std.specs.Str.{IsUtf8, chars}
use Rattle.std.proofs.lemmas.Str.{encodes-chars}
use Rattle.wire_encoding.proofs.Lengths.{encoded_within}
use Rattle.wire_encoding.proofs.fields.push_short.Goals as goal

pub push_blob-requires : goal.push_blob-requires
push_blob-requires c =
    let e = encodes-chars c.args.text.now (subst IsUtf8 c.as_bytes.ensures.value c.as_bytes.ensures.utf8) in
    rw c.as_bytes.ensures.value (omega (arith, ap length e, encoded_within (chars c.args.text.now), c.requires))

pub returns : goal.returns
returns c = let e = encodes-chars c.args.text.now (subst IsUtf8 c.as_bytes.ensures.value c.as_bytes.ensures.utf8) in rw e (search rules)
