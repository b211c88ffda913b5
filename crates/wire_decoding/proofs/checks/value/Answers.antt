-- A wrapped key of 1 to 1,024 bytes.
use Rattle.std.proofs.Common.{length}
use Rattle.ae_base.specs.Keys.{IsWrappedKey}
use Rattle.wire_decoding.specs.Reading.{is_wrapped, value_of}
use Rattle.wire_decoding.proofs.FieldLaws.{within_from, within_to}
use Rattle.wire_decoding.proofs.Tested.{made}
use Rattle.wire_decoding.proofs.checks.value.Goals as goal

pub returns : goal.returns
returns c =
    let b = c.args.wrapped.now in
    let s = rw c.lent.ensures at c.new.ensures.value in
    let e = rw c.lent.ensures at c.new.ensures.exactly in
    made c.new.result is_wrapped IsWrappedKey (value_of c.args.path) b s e (within_from 1 1024 (length b)) (λ h. within_to 1 1024 (length b) h.0 h.1)
