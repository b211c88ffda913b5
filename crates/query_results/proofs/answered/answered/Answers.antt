-- DISTINCT, then ORDER BY, then TOP.
use Rattle.std.proofs.Common.{◌≡◌, List, map, ap, ◌∙◌}
use Rattle.ae_base.specs.Atoms.{Atom}
use Rattle.sql_tree.specs.Bound.{query_of}
use Rattle.operators.specs.Found.{found_by}
use Rattle.query_results.specs.Results.{answer_rows, distinct_if}
use Rattle.query_results.proofs.Answering.{shown_of, answered_so}
use Rattle.operators.proofs.Interface.{if_ok}
use Rattle.query_results.proofs.answered.answered.Goals as goal

pub returns : goal.returns
returns g c =
    let q = query_of c.args.query.now in
    let kept = c.in_ok-found.ensures ∙ ap (λ given. distinct_if q.distinct (map (found_by q.order_by) given)) c.into_vec.ensures in
    if_ok c.shown.result (λ (rows : List (List Atom)). rows ≡ map shown_of c.top.new.found.items) (λ (rows : List (List Atom)). rows ≡ answer_rows q (map (found_by q.order_by) c.args.found))
    (λ rows e. answered_so q c.as_slice.result.now c.args.found c.in_ok-found.found.items c.order.new.found.items
    c.top.new.found.items rows c.as_slice.ensures kept c.in_ok-order.ensures c.top.ensures e) c.shown.ensures
