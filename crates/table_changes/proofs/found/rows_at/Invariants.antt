-- The rows at the places so far.
use Rattle.std.proofs.Common.{◌≡◌, [], get_or, map, take}
use Rattle.table_changes.proofs.found.rows_at.Given as goal

abbrev pub invariant-loop-place : goal.invariant-loop-place
invariant-loop-place g l = map (λ row. row.now) l.rows.items ≡ map (λ place. get_or l.table.rows place []) (take l.place-index l.places)
