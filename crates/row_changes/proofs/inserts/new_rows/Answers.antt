-- The next row.
use Rattle.std.proofs.Common.{◌≡◌, ◌+◌, ◌<◌, [], ◌∷◌, length, length-append, map, sym, ap, ◌∙◌, arith}
use Rattle.std.specs.List.{All}
use Rattle.std.proofs.lemmas.List.{length-map}
use Rattle.sql_tree.specs.Operands.{operand_of}
use Rattle.sql_tree.specs.Bound.{BoundRow, row_of}
use Rattle.sql_tree.specs.Placed.{IsPlaced}
use Rattle.row_changes.specs.Rows.{new_row, new_rows}
use Rattle.operators.proofs.Interface.{All_there}
use Rattle.row_changes.proofs.Values.{new_rows_more}
use Rattle.row_changes.proofs.inserts.new_rows.Goals as goal

pub new_row-requires-clause-count : goal.new_row-requires-clause-count
new_row-requires-clause-count g c =
    let h = All_there (λ (row : BoundRow). (length row.values ≡ length c.args.named.now) × All (IsPlaced 0 (length c.args.params.now)) row.values)
    row_of c.args.bound.now c.loop-row.row-index c.row-item.result c.loop-row-test.true c.row-item.is c.requires.rows in
    ap length c.as_slice.ensures ∙ sym (length-map c.row-item.result.values operand_of) ∙ h.0

pub new_row-requires-clause-values : goal.new_row-requires-clause-values
new_row-requires-clause-values g c =
    let h = All_there (λ (row : BoundRow). (length row.values ≡ length c.args.named.now) × All (IsPlaced 0 (length c.args.params.now)) row.values)
    row_of c.args.bound.now c.loop-row.row-index c.row-item.result c.loop-row-test.true c.row-item.is c.requires.rows in
    rw c.as_slice.ensures h.1

pub loop-row-preserved : goal.loop-row-preserved
loop-row-preserved g c =
    let most = c.requires.most in
    let room : c.args.count + length c.loop-row.rows < 1000000 = omega arith in
    let made = ap (λ vs. new_row c.args.columns.now c.args.named.now c.args.params.now (map operand_of vs)) (sym c.as_slice.ensures) ∙ c.in_ok-new_row.ensures in
    rw c.in_ok-push.ensures.ok (record {
      so_far = new_rows_more c.args.columns.now c.args.named.now c.args.params.now row_of c.args.count c.args.bound.now c.loop-row.row-index c.row-item.result c.loop-row-test.true c.row-item.is
          (new_rows c.args.columns.now c.args.named.now c.args.params.now c.args.count (map row_of c.args.bound.now)) c.loop-row.rows c.in_ok-new_row.field-0 room c.loop-row.invariant.so_far made;
      most = omega (arith, length-append c.loop-row.rows (c.in_ok-new_row.field-0 ∷ []));
    })
