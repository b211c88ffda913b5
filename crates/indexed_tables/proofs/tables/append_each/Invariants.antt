-- The rows so far stand at the end, and there is room for the others.
use Rattle.std.proofs.Common.{◌≡◌, ◌≤◌, ◌++◌, length}
use Rattle.row_store.specs.Numbers.{counted}
use Rattle.indexed_tables.proofs.tables.append_each.Given as goal

abbrev pub invariant-loop-row : goal.invariant-loop-row
invariant-loop-row g l = record {
  so_far : l.stored.rows ++ l.row-iterator.rest.items ≡ l.fn.stored.rows ++ l.fn.rows;
  numbers : l.stored.numbers ++ counted l.stored.next (length l.row-iterator.rest.items) ≡ l.fn.stored.numbers ++ counted l.fn.stored.next (length l.fn.rows);
  room : length l.row-iterator.rest.items ≤ l.stored.spare;
}
