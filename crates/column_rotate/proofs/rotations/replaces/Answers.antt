-- The batch has the text of both names.
use Rattle.std.proofs.Common.{refl}
use Rattle.std.specs.Str.{chars}
use Rattle.column_rotate.specs.Texts as spelled
use Rattle.column_rotate.proofs.rotations.replaces.Goals as goal

pub returns-clause-moves : goal.returns-clause-moves
returns-clause-moves c =
    let t = c.batch_alone.ensures (spelled.replaces (chars c.as_str.result.now) (chars c.as_str-2.result.now)).text c.in_ok-text.ensures in
    let x = c.as_str.ensures.characters in
    let y = c.as_str-2.ensures.characters in
    let e = c.sends.ensures in
    rw (e, t, x, y) refl
