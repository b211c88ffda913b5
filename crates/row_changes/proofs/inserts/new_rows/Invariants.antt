-- The rows so far, with those that are left, are the whole.
use Rattle.std.proofs.Common.{◌≡◌, ◌+◌, ◌≤◌, length, map, drop}
use Rattle.sql_tree.specs.Bound.{row_of}
use Rattle.row_changes.specs.Rows.{new_rows}
use Rattle.operators.proofs.Interface.{collected}
use Rattle.row_changes.proofs.inserts.new_rows.Given as goal

abbrev pub invariant-loop-row : goal.invariant-loop-row
invariant-loop-row g l = record {
  so_far : new_rows l.columns l.named l.params l.count (map row_of l.bound) ≡ collected l.rows (new_rows l.columns l.named l.params (l.count + length l.rows) (map row_of (drop l.row-index l.bound)));
  most : l.count + length l.rows ≤ 1000000;
}
