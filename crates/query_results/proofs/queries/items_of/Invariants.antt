-- The items so far, with those that are left, are the whole.
use Rattle.std.proofs.Common.{◌≡◌, drop, map}
use Rattle.sql_tree.specs.Bound.{item_of}
use Rattle.query_results.specs.Results as queries
use Rattle.operators.proofs.Interface.{collected}
use Rattle.query_results.proofs.queries.items_of.Given as goal

abbrev pub invariant-loop-item : goal.invariant-loop-item
invariant-loop-item g l = queries.items_of l.params l.count l.row (map item_of l.items) ≡ collected l.shown (queries.items_of l.params l.count l.row (map item_of (drop l.item-index l.items)))
