-- The next row.
use Rattle.std.proofs.Common.{◌≤◌, List, length, map, arith}
use Rattle.std.specs.List.{All}
use Rattle.ae_base.specs.Atoms.{Atom}
use Rattle.sql_tree.specs.Bound.{BoundItem, query_of, item_of}
use Rattle.sql_tree.specs.Placed.{IsPlacedValue}
use Rattle.operators.specs.Found.{found_by}
use Rattle.query_results.specs.Adds.{most_shown}
use Rattle.query_results.specs.Results.{found_of}
use Rattle.operators.proofs.Interface.{all_there}
use Rattle.query_results.proofs.Resulting.{added_more, added_fault, added_all}
use Rattle.query_results.proofs.queries.add_results.Goals as goal

pub add_row-requires : goal.add_row-requires
add_row-requires g c =
    all_there (λ (row : List Atom). All (λ (item : BoundItem). IsPlacedValue (length row) (length c.args.params.now) item.value) (map item_of c.args.query.now.items))
    c.args.rows.now c.loop-row.row-index c.row-item.result c.requires c.loop-row-test.true c.row-item.is

pub returns-in-Err : goal.returns-in-Err
returns-in-Err g c =
    let q = query_of c.args.query.now in
    added_fault (most_shown q) (found_by q.order_by) (found_of q c.args.params.now 0) c.args.rows.now
    c.args.found.now.count c.args.found.now.first c.loop-row.row-index c.row-item.result c.loop-row-test.true
    c.row-item.is c.loop-row.found.count c.loop-row.found.first c.loop-row.invariant (Unit {0}) c.in-Err.refusal c.add_row.new.found.count c.add_row.new.found.first c.in-Err.ensures

pub loop-row-preserved : goal.loop-row-preserved
loop-row-preserved g c =
    let q = query_of c.args.query.now in
    added_more (most_shown q) (found_by q.order_by) (found_of q c.args.params.now 0) c.args.rows.now
    c.args.found.now.count c.args.found.now.first c.loop-row.row-index c.row-item.result c.loop-row-test.true
    c.row-item.is c.loop-row.found.count c.loop-row.found.first c.loop-row.invariant c.add_row.new.found.count c.add_row.new.found.first c.in-Ok.ensures

pub returns : goal.returns
returns g c =
    let q = query_of c.args.query.now in
    let le : length c.args.rows.now ≤ c.loop-row.row-index = omega (arith, c.loop-row-test.false) in
    added_all (most_shown q) (found_by q.order_by) (found_of q c.args.params.now 0) c.args.rows.now
    c.args.found.now.count c.args.found.now.first c.loop-row.row-index c.loop-row.found.count c.loop-row.found.first c.loop-row.invariant le
