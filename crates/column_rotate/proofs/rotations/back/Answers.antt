-- The batch has that text.
use Rattle.std.proofs.Common.{codes, refl, sym}
use Rattle.column_rotate.proofs.Spelled.{plain_bytes}
use Rattle.column_rotate.proofs.rotations.back.Goals as goal

pub returns-clause-moves : goal.returns-clause-moves
returns-clause-moves c =
    let b = c.in_ok-batch.ensures (codes "ROLLBACK") (sym (plain_bytes (codes "ROLLBACK") refl)) in
    let e = c.sends.ensures in
    rw (e, b) refl
