-- The places so far.
use Rattle.std.proofs.Common.{◌≡◌, map, take}
use Rattle.indexed_tables.proofs.exchanges.places_of.Given as goal

abbrev pub invariant-loop-change : goal.invariant-loop-change
invariant-loop-change g l = l.places.items ≡ map (λ change. change.place) (take l.change-index l.changes)
