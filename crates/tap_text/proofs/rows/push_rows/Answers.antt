-- One more is written, and at the end all are.
use Rattle.std.proofs.Common.{◌+◌, string_bytes, take}
use Rattle.std.proofs.lemmas.List.{take_all}
use Rattle.tap_listing.specs.Frames.{rows_spots}
use Rattle.tap_text.specs.Text.{rows_text}
use Rattle.tap_text.proofs.Rowwise.{row_behind, all_written, one_more}
use Rattle.tap_text.proofs.rows.push_rows.Goals as goal

pub loop-row-preserved : goal.loop-row-preserved
loop-row-preserved c =
    let i = c.loop-row.row-index in
    let all = c.args.rows.now in
    row_behind c.args.page c.args.numbers.now c.loop-row.numbers c.push_row.new.numbers (string_bytes c.args.text.now) (string_bytes c.loop-row.text) (string_bytes c.push_row.new.text)
    c.args.classes.now (take i all) (take (i + 1) all) c.row-item.result (one_more all i c.row-item.result c.loop-row-test.true c.row-item.is) c.loop-row.invariant c.in_ok-push_row.ensures

pub returns : goal.returns
returns c =
    all_written c.args.numbers.now c.loop-row.numbers (string_bytes c.args.text.now) (string_bytes c.loop-row.text)
    (rows_text c.args.page c.args.classes.now) (rows_spots c.args.classes.now) _ _ (take_all c.loop-row.row-index c.args.rows.now c.loop-row-test.false) c.loop-row.invariant
