-- The places so far, with those of the rows that are left, are the whole.
use Rattle.std.proofs.Common.{◌≡◌, ◌++◌, drop, length}
use Rattle.row_store.specs.Changes.{hit}
use Rattle.row_store.specs.Numbers.{counted}
use Rattle.table_changes.proofs.deletes.places_hit.Given as goal

abbrev pub invariant-loop-place : goal.invariant-loop-place
invariant-loop-place l = l.places ++ hit (drop l.place (counted 0 (length l.hits))) (drop l.place l.hits) ≡ hit (counted 0 (length l.hits)) l.hits
