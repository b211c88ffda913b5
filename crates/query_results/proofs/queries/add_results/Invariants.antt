-- What was kept so far, with what is found in the rows that are left, is the whole.
use Rattle.sql_tree.specs.Bound.{query_of}
use Rattle.operators.specs.Found.{found_by}
use Rattle.query_results.specs.Adds.{most_shown}
use Rattle.query_results.specs.Results.{found_of}
use Rattle.query_results.proofs.Resulting.{AreAdded}
use Rattle.query_results.proofs.queries.add_results.Given as goal

abbrev pub invariant-loop-row : goal.invariant-loop-row
invariant-loop-row g l =
    AreAdded (most_shown (query_of l.query)) (found_by l.query.order_by) (found_of (query_of l.query) l.params 0) l.rows l.fn.found.count l.fn.found.first l.row-index l.found.count l.found.first
