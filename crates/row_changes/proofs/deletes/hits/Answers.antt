-- The next row.
use Rattle.std.proofs.Common.{◌<◌, ◌∷◌, [], List, length, length-append, take, map, sym, ap, ◌∙◌, arith}
use Rattle.std.specs.Option.{option_map}
use Rattle.std.proofs.lemmas.List.{length-map}
use Rattle.ae_base.specs.Atoms.{Atom}
use Rattle.ae_base.specs.Results.{◌>>=◌, each}
use Rattle.sql_tree.specs.Conditions.{condition_of}
use Rattle.sql_tree.specs.Placed.{IsPlacedFilter}
use Rattle.row_changes.specs.Changes.{selects, tested_row, row_to_delete, all_tested}
use Rattle.row_changes.proofs.Changing.{hits_more, hit_failed, read_mapped}
use Rattle.operators.proofs.Interface.{all_there}
use Rattle.row_changes.proofs.deletes.hits.Goals as goal

pub selects-requires : goal.selects-requires
selects-requires g c =
    rw c.whole.ensures
    (all_there (λ row. IsPlacedFilter (length row.now) (length c.args.params.now) (option_map condition_of c.args.filter.now))
    c.args.rows.now c.loop-row.row-index c.row-item.result c.requires c.loop-row-test.true c.row-item.is)

pub returns-in-Err-clause-hits : goal.returns-in-Err-clause-hits
returns-in-Err-clause-hits g c =
    let R = map (λ row. row.now) c.args.rows.now in
    let filter = option_map condition_of c.args.filter.now in
    let i = c.loop-row.row-index in
    let lt : i < length R = omega (arith, c.loop-row-test.true, length-map c.args.rows.now (λ row. row.now)) in
    let is = read_mapped (λ row. row.now) c.args.rows.now i c.row-item.result c.loop-row-test.true c.row-item.is in
    hit_failed filter c.args.params.now (all_tested R) R i c.row-item.result.now (all_tested (take i R) c.loop-row.hits)
    lt is c.loop-row.invariant.so_far c.in-Err.refusal (rw c.whole.ensures at c.in-Err.ensures)

pub loop-row-preserved : goal.loop-row-preserved
loop-row-preserved g c =
    let R = map (λ row. row.now) c.args.rows.now in
    let filter = option_map condition_of c.args.filter.now in
    let i = c.loop-row.row-index in
    let lt : i < length R = omega (arith, c.loop-row-test.true, length-map c.args.rows.now (λ row. row.now)) in
    let is = read_mapped (λ row. row.now) c.args.rows.now i c.row-item.result c.loop-row-test.true c.row-item.is in
    let made = ap (λ (row : List Atom). selects c.args.params.now filter row) (sym c.whole.ensures) ∙ c.in-Ok.ensures in
    rw c.in_ok-push-in-Ok.ensures.ok (record {
      so_far = hits_more (row_to_delete filter c.args.params.now) R i c.row-item.result.now
          (each (row_to_delete filter c.args.params.now) R) c.loop-row.hits c.in-Ok.hit lt is c.loop-row.invariant.long c.loop-row.invariant.so_far
          (ap (λ s. s >>= tested_row c.row-item.result.now) made);
      long = omega (arith, length-append c.loop-row.hits (c.in-Ok.hit ∷ []), c.loop-row.invariant.long);
    })
