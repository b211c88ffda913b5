-- A text is UTF-8, so its characters are scalar values and spell its bytes again.
use Rattle.std.proofs.Common.{sym, subst}
use Rattle.std.specs.Str.{IsUtf8}
use Rattle.std.proofs.lemmas.Str.{encodes-chars, scalars-chars}
use Rattle.wire_parts.proofs.parts.TxtPart.as_str.Goals as goal

pub returns-in-Lent-clause-bytes : goal.returns-in-Lent-clause-bytes
returns-in-Lent-clause-bytes c =
    let e = encodes-chars c.in-Lent.text.now (subst IsUtf8 c.as_bytes.ensures.value c.as_bytes.ensures.utf8) in
    rw (← c.self.view_is) (rw c.in-Lent.is (sym e))

pub returns-in-Lent-clause-scalars : goal.returns-in-Lent-clause-scalars
returns-in-Lent-clause-scalars c =
    let s = scalars-chars c.in-Lent.text.now (subst IsUtf8 c.as_bytes.ensures.value c.as_bytes.ensures.utf8) in
    rw (← c.self.view_is) (rw c.in-Lent.is s)
