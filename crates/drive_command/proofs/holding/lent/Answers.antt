-- Alone, or a row.
use Rattle.std.proofs.Common.{◌∙◌, ap, arith, inl, inr, length}
use Rattle.drive_command.proofs.Holdings.{row_lent, row_used}
use Rattle.drive_command.proofs.holding.lent.Goals.{then-skipped-len, else-skipped-len}
use Rattle.drive_command.proofs.holding.lent.Goals as goal

pub returns-after-skipped-len : goal.returns-after-skipped-len
returns-after-skipped-len c =
    let is = c.in-Rows.is in
    let items = c.into_vec-rows.ensures ∙ c.into_rows.ensures.rows in
    let many = ap length items in
    let own = c.into_vec-rows.result.ok.0 in
    let counted = c.len.ensures in
    let left = rw is at c.requires in
    let row = rw items at c.swap_remove-row.ensures.value in
    rw is (
      _,
      row_lent c.in-Rows.batch c.swap_remove-row.result c.args.skipped left row,
      row_used c.in-Rows.batch c.args.skipped c.len.result c.args.long c.if-skipped-len.used left (omega (arith, counted, own, many))
          (elim c.if-skipped-len.branch [ then-skipped-len w ↦ inl (w.if-skipped-len.true, w.used-is) | else-skipped-len w ↦ inr (w.if-skipped-len.false, w.used-is) ]),
    )
