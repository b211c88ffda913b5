-- So many pages are ready.
use Rattle.std.proofs.Common.{◌≡◌, ◌≤◌, length}
use Rattle.std.specs.Vec.{vec_capacity}
use Rattle.row_store.specs.Paged.{IsKept}
use Rattle.row_store.proofs.tables.fill.Given as goal

abbrev pub invariant-loop-step : goal.invariant-loop-step
invariant-loop-step g l = record {
  pages : l.pages.items ≡ l.fn.pages.items;
  kept : IsKept l.pages.items l.ready.items (vec_capacity l.pages);
  more : length l.fn.ready.items ≤ length l.ready.items;
  count : l.step ≤ length l.ready.items;
}
