-- Bytes that are few enough.
use Rattle.std.proofs.Common.{◌≤◌, List, ℕ, length}
use Rattle.std.proofs.lemmas.Bool.{leb-true, le-leb}
use Rattle.wire_decoding.specs.Reading.{is_blob_within, binary}
use Rattle.wire_decoding.proofs.Tested.{made}
use Rattle.wire_decoding.proofs.checks.binary_atom.Goals as goal

pub returns : goal.returns
returns c =
    let b = c.args.bytes.now in
    let s = rw c.lent.ensures at c.binary.ensures.atom in
    let e = rw c.lent.ensures at c.binary.ensures.exactly in
    made c.binary.result (is_blob_within 8000) (λ (x : List ℕ). length x ≤ 8000) binary b s e (leb-true (length b) 8000) (le-leb (length b) 8000)
