-- The batch has the text of the name.
use Rattle.std.proofs.Common.{refl}
use Rattle.std.specs.Str.{chars}
use Rattle.column_rotate.specs.Texts as spelled
use Rattle.column_rotate.proofs.rotations.reads.Goals as goal

pub returns-clause-moves : goal.returns-clause-moves
returns-clause-moves c =
    let t = c.batch_alone.ensures (spelled.reads_all (chars c.as_str.result.now)).text c.in_ok-text.ensures in
    let x = c.as_str.ensures.characters in
    let e = c.sends.ensures in
    rw (e, t, x) refl
