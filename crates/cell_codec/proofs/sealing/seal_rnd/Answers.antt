-- The parts are those of the sealed cell.
use Rattle.std.proofs.Common.{refl}
use Rattle.cell_codec.proofs.Parts.{sealed-parts}
use Rattle.cell_codec.proofs.sealing.seal_rnd.Goals as goal

pub returns-clause-value : goal.returns-clause-value
returns-clause-value c =
    let whole = sealed-parts c.args.keys.now c.args.iv.now c.args.bytes.now c.deref-2.result.now c.tag_of-tag.result _
    (cc c.in_ok-ciphertext.ensures.value) (cc) refl in
    rw (← whole) c.joined.ensures.value
