-- The row that is left first is put.
use Rattle.std.specs.Str.{chars}
use Rattle.column_rotate.specs.Texts as spelled
use Rattle.column_rotate.proofs.Rows.{row_put}
use Rattle.column_rotate.proofs.rotations.first_put.Goals as goal

pub returns-in_ok-params-in-Some : goal.returns-in_ok-params-in-Some
returns-in_ok-params-in-Some c =
    let b = c.batch_of.ensures (spelled.insert_text (chars c.as_str.result.now) c.as_slice.result.now) c.in_ok-text-in-Some.ensures in
    let p = c.in_ok-params-in-Some.ensures in
    let x = c.as_str.ensures.characters in
    let y = c.as_slice.ensures in
    let z = c.as_slice-in-Some.ensures in
    rw (b, p, x, y, z) (row_put c.args.table.now c.args.columns.now c.args.left.now c.in-Some.row.now c.in-Some.ensures)
