-- The rows so far.
use Rattle.std.proofs.Common.{◌≡◌, map, take}
use Rattle.indexed_tables.proofs.exchanges.rows_of.Given as goal

abbrev pub invariant-loop-change : goal.invariant-loop-change
invariant-loop-change g l = map (λ row. row.now) l.rows.items ≡ map (λ change. change.row) (take l.change-index l.changes)
