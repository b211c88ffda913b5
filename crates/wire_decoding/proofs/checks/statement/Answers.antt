-- As the definition of the text says.
use Rattle.std.proofs.Common.{length, encode_utf8_all}
use Rattle.std.proofs.lemmas.Bool.{leb-true, le-leb}
use Rattle.std.specs.Str.{chars}
use Rattle.wire_parts.specs.Texts.{IsStatementText}
use Rattle.wire_decoding.specs.Reading.{is_text_within}
use Rattle.wire_decoding.proofs.Tested.{tested}
use Rattle.wire_decoding.proofs.checks.statement.Goals as goal

pub returns : goal.returns
returns c =
    let t = chars c.args.text.now in
    let s = rw c.lent.ensures at c.from_part.ensures.text in
    let e = rw c.lent.ensures at c.from_part.ensures.exactly in
    tested c.from_part.result (is_text_within 65536) IsStatementText t s e (leb-true (length (encode_utf8_all t)) 65536) (le-leb (length (encode_utf8_all t)) 65536)
