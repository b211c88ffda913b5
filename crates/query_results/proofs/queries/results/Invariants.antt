-- What was kept so far, with what is found in the pages that are left, is the whole.
use Rattle.sql_tree.specs.Bound.{query_of}
use Rattle.operators.specs.Found.{found_by}
use Rattle.query_results.specs.Adds.{most_shown}
use Rattle.query_results.specs.Results.{found_of}
use Rattle.query_results.proofs.Resulting.{AreOfPages}
use Rattle.query_results.proofs.queries.results.Given as goal

abbrev pub invariant-loop-page : goal.invariant-loop-page
invariant-loop-page g l = AreOfPages (most_shown (query_of l.query)) (found_by l.query.order_by) (found_of (query_of l.query) l.params 0) l.pages l.page-index l.found.count l.found.first
