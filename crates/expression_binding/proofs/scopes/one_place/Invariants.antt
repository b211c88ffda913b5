-- The place that was found, with those of the columns that are left.
use Rattle.std.proofs.Common.{◌≡◌, drop, map}
use Rattle.expression_binding.specs.Scopes.{places_from, one_place}
use Rattle.expression_binding.specs.Seen.{column_seen}
use Rattle.expression_binding.proofs.Walks.{found_before}
use Rattle.expression_binding.proofs.scopes.one_place.Given as goal

abbrev pub invariant-loop-place : goal.invariant-loop-place
invariant-loop-place l =
    one_place l.column.name (places_from 0 l.column (map column_seen l.columns))
    ≡ one_place l.column.name (found_before l.found (places_from l.place l.column (map column_seen (drop l.place l.columns))))
