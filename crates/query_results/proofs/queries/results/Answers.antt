-- The rows of one more page.
use Rattle.std.proofs.Common.{◌≤◌, List, length, map, arith}
use Rattle.std.specs.List.{All}
use Rattle.row_store.proofs.Interface.{All_page}
use Rattle.ae_base.specs.Atoms.{Atom}
use Rattle.sql_tree.specs.Bound.{BoundItem, query_of, item_of}
use Rattle.sql_tree.specs.Placed.{IsPlacedValue}
use Rattle.operators.specs.Found.{found_by, top_of}
use Rattle.operators.specs.declared.found.Found as code
use Rattle.query_results.specs.Adds.{most_shown}
use Rattle.query_results.specs.Results.{found_of}
use Rattle.query_results.proofs.Resulting.{page_more, page_fault, pages_all, pages_start}
use Rattle.query_results.proofs.queries.results.Goals as goal

pub loop-page-init : goal.loop-page-init
loop-page-init g c =
    let q = query_of c.args.query.now in
    rw c.new.ensures (pages_start (most_shown q) (found_by {K = g.row.K.Denot} q.order_by) (found_of q c.args.params.now 0) c.args.pages.now)

pub add_results-requires : goal.add_results-requires
add_results-requires g c =
    rw c.rows.ensures
    (All_page (λ (row : List Atom). All (λ (item : BoundItem). IsPlacedValue (length row) (length c.args.params.now) item.value) (map item_of c.args.query.now.items))
    c.args.pages.now c.loop-page.page-index c.page-item.result c.requires c.loop-page-test.true c.page-item.is)

pub returns-in-Err : goal.returns-in-Err
returns-in-Err g c =
    let q = query_of c.args.query.now in
    page_fault (most_shown q) (found_by q.order_by) (found_of q c.args.params.now 0) c.args.pages.now
    c.loop-page.page-index c.page-item.result c.loop-page-test.true c.page-item.is c.loop-page.found.count
    c.loop-page.found.first c.loop-page.invariant (List (code.Found g.row.K.Denot)) (Unit {0})
    (λ (found : List (code.Found g.row.K.Denot)). top_of (most_shown q) (map (found_by q.order_by) found))
    c.in-Err.refusal c.add_results.new.found.count c.add_results.new.found.first (rw c.rows.ensures at c.in-Err.ensures)

pub loop-page-preserved : goal.loop-page-preserved
loop-page-preserved g c =
    let q = query_of c.args.query.now in
    page_more (most_shown q) (found_by q.order_by) (found_of q c.args.params.now 0) c.args.pages.now
    c.loop-page.page-index c.page-item.result c.loop-page-test.true c.page-item.is c.loop-page.found.count
    c.loop-page.found.first c.loop-page.invariant c.add_results.new.found.count c.add_results.new.found.first (rw c.rows.ensures at c.in-Ok.ensures)

pub returns : goal.returns
returns g c =
    let q = query_of c.args.query.now in
    let le : length c.args.pages.now ≤ c.loop-page.page-index = omega (arith, c.loop-page-test.false) in
    pages_all (most_shown q) (found_by q.order_by) (found_of q c.args.params.now 0) c.args.pages.now c.loop-page.page-index c.loop-page.found.count c.loop-page.found.first c.loop-page.invariant le
