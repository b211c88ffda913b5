-- Bytes that are few enough.
use Rattle.std.proofs.Common.{◌≤◌, List, ℕ, length}
use Rattle.std.proofs.lemmas.Bool.{leb-true, le-leb}
use Rattle.wire_decoding.specs.Reading.{is_blob_within, sealed}
use Rattle.wire_decoding.proofs.Tested.{made}
use Rattle.wire_decoding.proofs.checks.sealed_atom.Goals as goal

pub returns : goal.returns
returns c =
    let b = c.args.bytes.now in
    let s = rw c.lent.ensures at c.sealed.ensures.atom in
    let e = rw c.lent.ensures at c.sealed.ensures.exactly in
    made c.sealed.result (is_blob_within 16384) (λ (x : List ℕ). length x ≤ 16384) sealed b s e (leb-true (length b) 16384) (le-leb (length b) 16384)
