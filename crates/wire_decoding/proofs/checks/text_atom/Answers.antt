-- A text that is short enough.
use Rattle.std.proofs.Common.{◌≤◌, List, ℕ, length, encode_utf8_all}
use Rattle.std.specs.Str.{chars}
use Rattle.std.proofs.lemmas.Bool.{leb-true, le-leb}
use Rattle.wire_decoding.specs.Reading.{is_text_within, text}
use Rattle.wire_decoding.proofs.Tested.{made}
use Rattle.wire_decoding.proofs.checks.text_atom.Goals as goal

pub returns : goal.returns
returns c =
    let t = chars c.args.text.now in
    let s = rw c.lent.ensures at c.text.ensures.atom in
    let e = rw c.lent.ensures at c.text.ensures.exactly in
    made c.text.result (is_text_within 12000) (λ (x : List ℕ). length (encode_utf8_all x) ≤ 12000) text t s e (leb-true (length (encode_utf8_all t)) 12000) (le-leb (length (encode_utf8_all t)) 12000)
