-- The items that are left decide.
use Rattle.std.proofs.Common.{◌≡◌, drop, map}
use Rattle.sql_tree.specs.Bound.{query_of, item_of}
use Rattle.query_results.specs.Adds.{checked}
use Rattle.query_results.specs.Results as queries
use Rattle.query_results.proofs.queries.check_row.Given as goal

abbrev pub invariant-loop-item : goal.invariant-loop-item
invariant-loop-item g l =
    checked (queries.found_of (query_of l.query) l.params 0 l.row) ≡ checked (queries.items_of l.params 0 l.row (map item_of (drop l.item-index l.query.items)))
