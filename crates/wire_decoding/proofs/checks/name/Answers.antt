-- As the definition of the text says.
use Rattle.std.proofs.Common.{length}
use Rattle.std.specs.Str.{chars}
use Rattle.ae_base.specs.Names.{IsName}
use Rattle.wire_decoding.specs.Reading.{is_word}
use Rattle.wire_decoding.proofs.FieldLaws.{within_from, within_to}
use Rattle.wire_decoding.proofs.Tested.{tested}
use Rattle.wire_decoding.proofs.checks.name.Goals as goal

pub returns : goal.returns
returns c =
    let t = chars c.args.text.now in
    let s = rw c.lent.ensures at c.from_part.ensures.text in
    let e = rw c.lent.ensures at c.from_part.ensures.exactly in
    tested c.from_part.result is_word IsName t s e (within_from 1 128 (length t)) (λ h. within_to 1 128 (length t) h.0 h.1)
