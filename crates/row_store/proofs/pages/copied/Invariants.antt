-- The rows so far are copied.
use Rattle.std.proofs.Common.{◌≡◌, ◌≤◌, take}
use Rattle.std.specs.Vec.{vec_capacity}
use Rattle.row_store.proofs.pages.copied.Given as goal

abbrev pub invariant-loop-row : goal.invariant-loop-row
invariant-loop-row g l = record {
  copied : l.copy.items ≡ take l.row-index l.rows;
  room : 256 ≤ vec_capacity l.copy;
}
