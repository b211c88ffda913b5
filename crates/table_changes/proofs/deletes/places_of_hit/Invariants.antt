-- The places so far, with those of the rows that are left, are the whole.
use Rattle.std.proofs.Common.{◌≡◌, ◌++◌, drop}
use Rattle.row_store.specs.Changes.{hit}
use Rattle.table_changes.proofs.deletes.places_of_hit.Given as goal

abbrev pub invariant-loop-i : goal.invariant-loop-i
invariant-loop-i l = l.dropped ++ hit (drop l.i l.places) (drop l.i l.hits) ≡ hit l.places l.hits
