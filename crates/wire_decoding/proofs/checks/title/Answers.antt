-- As the definition of the text says.
use Rattle.std.proofs.Common.{length}
use Rattle.std.proofs.lemmas.Bool.{leb-true, le-leb}
use Rattle.std.specs.Str.{chars}
use Rattle.ae_base.specs.Names.{IsTitle}
use Rattle.wire_decoding.specs.Reading.{is_title}
use Rattle.wire_decoding.proofs.Tested.{tested}
use Rattle.wire_decoding.proofs.checks.title.Goals as goal

pub returns : goal.returns
returns c =
    let t = chars c.args.text.now in
    let s = rw c.lent.ensures at c.from_part.ensures.text in
    let e = rw c.lent.ensures at c.from_part.ensures.exactly in
    tested c.from_part.result is_title IsTitle t s e (leb-true (length t) 128) (le-leb (length t) 128)
