-- The rows at the places so far.
use Rattle.std.proofs.Common.{◌≡◌, ◌+◌, [], length, get_or, map, take}
use Rattle.row_lookups.proofs.found.rows_at.Given as goal

abbrev pub invariant-loop-place : goal.invariant-loop-place
invariant-loop-place g l = record {
  rows : map (λ row. row.now) l.rows.items ≡ map (λ place. get_or l.table.rows place []) (take l.place-index l.places);
  looked : l.looked ≡ l.fn.looked + length l.rows.items;
}
