-- The pages so far.
use Rattle.std.proofs.Common.{◌≡◌, ◌≤◌, length, take}
use Rattle.std.specs.Vec.{vec_capacity}
use Rattle.row_store.proofs.tables.copies.Given as goal

abbrev pub invariant-loop-page : goal.invariant-loop-page
invariant-loop-page g l = record {
  copied : l.copies.items ≡ take l.page-index l.pages;
  room : length l.pages ≤ vec_capacity l.copies;
}
