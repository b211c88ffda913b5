-- The next row.
use Rattle.std.proofs.Common.{◌≡◌, ◌<◌, length, map, take, sym, arith}
use Rattle.std.proofs.lemmas.List.{length-map}
use Rattle.sql_tree.specs.Bound.{update_of}
use Rattle.row_changes.specs.Changes.{row_to_update, tested_with, all_changed, spread}
use Rattle.row_changes.proofs.Changing.{change_failed, read_mapped}
use Rattle.row_changes.proofs.Spreading.{changing_more, changing_done}
use Rattle.row_changes.proofs.updates.changes.Goals as goal

pub returns-in-Err-clause-changes : goal.returns-in-Err-clause-changes
returns-in-Err-clause-changes g c =
    let R = map (λ row. row.now) c.args.rows.now in
    let f = row_to_update c.args.columns.now (update_of c.args.update.now) c.args.params.now in
    let i = c.loop-place.place in
    let lt : i < length R = omega (arith, c.loop-place-test.true, length-map c.args.rows.now (λ row. row.now)) in
    let is = read_mapped (λ row. row.now) c.args.rows.now i c.index-rows-place.result c.loop-place-test.true c.index-rows-place.is in
    change_failed f (λ changes. all_changed R (spread 0 (length c.args.rows.now) changes)) R i c.index-rows-place.result.now
    (all_changed (take i R) (spread 0 i c.loop-place.changes)) lt is c.loop-place.invariant.so_far c.in-Err.refusal
    (tested_with c.index-rows-place.result.now) c.in-Err.ensures

pub loop-place-preserved : goal.loop-place-preserved
loop-place-preserved g c =
    let R = map (λ row. row.now) c.args.rows.now in
    let f = row_to_update c.args.columns.now (update_of c.args.update.now) c.args.params.now in
    let i = c.loop-place.place in
    let lt : i < length R = omega (arith, c.loop-place-test.true, length-map c.args.rows.now (λ row. row.now)) in
    let is = read_mapped (λ row. row.now) c.args.rows.now i c.index-rows-place.result c.loop-place-test.true c.index-rows-place.is in
    rw c.in_ok-note-in-Ok.ensures (changing_more f R i c.index-rows-place.result.now c.loop-place.changes lt is c.loop-place.invariant c.in-Ok.new c.in-Ok.ensures)

pub returns-clause-changes : goal.returns-clause-changes
returns-clause-changes g c =
    let R = map (λ row. row.now) c.args.rows.now in
    let f = row_to_update c.args.columns.now (update_of c.args.update.now) c.args.params.now in
    let over : c.loop-place.place ≡ length c.args.rows.now = omega (arith, c.loop-place-test.false, c.loop-place.auto.place-end) in
    let long : length c.args.rows.now ≡ length R = sym (length-map c.args.rows.now (λ row. row.now)) in
    changing_done f R c.loop-place.place (length c.args.rows.now) c.loop-place.changes c.loop-place.invariant over long
