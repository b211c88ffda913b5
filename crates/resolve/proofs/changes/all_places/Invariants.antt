-- The places so far stand before the others.
use Rattle.std.proofs.Common.{◌≡◌, ◌++◌, drop}
use Rattle.resolve.specs.Changes.{all_places}
use Rattle.resolve.proofs.changes.all_places.Given as goal

abbrev pub invariant-loop-place : goal.invariant-loop-place
invariant-loop-place l =
    all_places 0 l.columns ≡ l.places ++ all_places l.place (drop l.place l.columns)
