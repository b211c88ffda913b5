-- The rows so far, with those that are left, are the whole.
use Rattle.std.proofs.Common.{◌≡◌, drop, length, map, take}
use Rattle.std.specs.Option.{option_map}
use Rattle.ae_base.specs.Results.{each}
use Rattle.sql_tree.specs.Conditions.{condition_of}
use Rattle.row_changes.specs.Changes.{all_tested, row_to_delete}
use Rattle.operators.proofs.Interface.{collected}
use Rattle.row_changes.proofs.deletes.hits.Given as goal

abbrev pub invariant-loop-row : goal.invariant-loop-row
invariant-loop-row g l = record {
  so_far : each (row_to_delete (option_map condition_of l.filter) l.params) (map (λ row. row.now) l.rows)
      ≡ collected (all_tested (take l.row-index (map (λ row. row.now) l.rows)) l.hits)
      (each (row_to_delete (option_map condition_of l.filter) l.params) (drop l.row-index (map (λ row. row.now) l.rows)));
  long : length l.hits ≡ l.row-index;
}
