-- A row that is kept, or only checked.
use Rattle.std.proofs.Common.{◌≡◌, ◌+◌, ◌<◌, ◌≤◌, length, arith, true, ap, sym, ◌∙◌}
use Rattle.sql_tree.specs.Bound.{query_of}
use Rattle.operators.specs.Found.{found_by}
use Rattle.operators.specs.declared.found.Found as code
use Rattle.query_results.specs.Adds.{most_shown, is_enough}
use Rattle.query_results.specs.Results.{found_of}
use Rattle.query_results.proofs.Resulting.{one_kept, one_checked, one_fault, one_too_many}
use Rattle.query_results.proofs.queries.add_row.Goals as goal

pub returns-then-found-ge-MOST_ANSWER_ROWS : goal.returns-then-found-ge-MOST_ANSWER_ROWS
returns-then-found-ge-MOST_ANSWER_ROWS g c =
    let q = query_of c.args.query.now in
    let le : 1000000 ≤ c.args.found.now.count = omega arith in
    one_too_many (most_shown q) (found_by q.order_by) (found_of q c.args.params.now 0) c.args.row.now c.args.found.now.count c.args.found.now.first le

pub returns-then-is_enough : goal.returns-then-is_enough
returns-then-is_enough g c =
    let q = query_of c.args.query.now in
    let room : c.args.found.now.count < 1000000 = omega arith in
    let enough : is_enough (most_shown q) (length c.args.found.now.first) ≡ true = ap (is_enough (most_shown q)) (sym c.len.ensures) ∙ sym c.is_enough.ensures ∙ c.if-is_enough.true in
    one_checked (most_shown q) (found_by q.order_by) (found_of q c.args.params.now 0) c.args.row.now c.args.found.now.count c.args.found.now.first room enough c.check_row.result c.check_row.ensures

pub returns-in-Err : goal.returns-in-Err
returns-in-Err g c =
    let q = query_of c.args.query.now in
    let room : c.args.found.now.count < 1000000 = omega arith in
    one_fault (most_shown q) (found_by q.order_by) (found_of q c.args.params.now 0) c.args.row.now c.args.found.now.count
    c.args.found.now.first (code.Found g.row.K.Denot) (Unit {0}) (found_by {K = g.row.K.Denot} q.order_by)
    c.in-Err.refusal (c.args.found.now.count + 1) c.args.found.now.first room c.in-Err.ensures

pub returns : goal.returns
returns g c =
    let q = query_of c.args.query.now in
    let room : c.args.found.now.count < 1000000 = omega arith in
    rw c.in_ok-push-in-Ok.ensures.ok
    (one_kept (most_shown q) (found_by q.order_by) (found_of q c.args.params.now 0) c.args.row.now c.args.found.now.count c.args.found.now.first c.in-Ok.next room c.in-Ok.ensures)
