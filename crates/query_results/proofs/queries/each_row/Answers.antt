-- What is found of the rows that the walk met, and then its fault.
use Rattle.std.proofs.Common.{List, length, map, sym, ap, ◌∙◌, Ok}
use Rattle.std.proofs.lemmas.Result.{err_from_is_err_and}
use Rattle.row_store.specs.Paged.{flat}
use Rattle.sql_tree.specs.Bound.{query_of, item_of}
use Rattle.operators.specs.Events.{scan_of, fault_in}
use Rattle.operators.specs.Found.{found_by, top_of}
use Rattle.operators.specs.declared.found.Found as code
use Rattle.query_results.specs.Adds.{most_shown, first_found}
use Rattle.query_results.specs.Results.{found_of, results, all_found, answer_of}
use Rattle.operators.proofs.Interface.{fault_handed}
use Rattle.query_results.proofs.Finding.{wide_parted, row_fault, row_found}
use Rattle.query_results.proofs.Resulting.{placed_items, or_found}
use Rattle.query_results.proofs.queries.each_row.Goals as goal

pub results-requires : goal.results-requires
results-requires g c =
    placed_items c.args.width (length c.args.params.now) (map item_of c.args.query.now.items) (flat c.rows.result.now)
    c.requires.items (wide_parted c.args.width c.args.events (flat c.rows.result.now) (fault_in c.args.events) c.rows.ensures c.requires.wide)

pub returns-in_err-found : goal.returns-in_err-found
returns-in_err-found g c =
    let q = query_of c.args.query.now in
    let params = c.args.params.now in
    let p = err_from_is_err_and c.from_residual.result c.from_residual.ensures.1 in
    rw (p.1, p.2)
    (fault_handed (λ (found : List (code.Found g.row.K.Denot)). top_of (most_shown q) (map (found_by q.order_by) found))
    c.in_err-found.field-0.0 (first_found (most_shown q) (results (found_of q params 0) 0 (scan_of (flat c.rows.result.now))))
    (answer_of q (all_found q params c.args.events)) c.in_err-found.ensures
    (row_fault q params c.args.events (flat c.rows.result.now) c.requires.alone (fault_in c.args.events) c.rows.ensures))

pub returns-in-Some : goal.returns-in-Some
returns-in-Some g c =
    let q = query_of c.args.query.now in
    let found = map (found_by q.order_by) c.in_ok-found.found in
    row_found q c.args.params.now c.args.events (flat c.rows.result.now) c.requires.alone (fault_in c.args.events)
    c.rows.ensures found c.in_ok-found.ensures ∙ ap (λ o. answer_of q (or_found o found)) (sym c.into_fault.ensures ∙ c.in-Some.is)

pub returns-in-None : goal.returns-in-None
returns-in-None g c =
    let q = query_of c.args.query.now in
    let found = map (found_by q.order_by) c.in_ok-found.found in
    row_found q c.args.params.now c.args.events (flat c.rows.result.now) c.requires.alone (fault_in c.args.events)
    c.rows.ensures found c.in_ok-found.ensures ∙ ap (λ o. answer_of q (or_found o found)) (sym c.into_fault.ensures ∙ c.in-None.is) ∙ ap (λ rows. Ok rows) (sym c.in_ok-rows.ensures)
