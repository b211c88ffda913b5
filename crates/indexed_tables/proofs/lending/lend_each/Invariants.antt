-- The rows so far stand at the end.
use Rattle.std.proofs.Common.{◌≡◌, ◌++◌, map, take}
use Rattle.indexed_tables.proofs.lending.lend_each.Given as goal

abbrev pub invariant-loop-row : goal.invariant-loop-row
invariant-loop-row g l = map (λ row. row.now) l.lent ≡ map (λ row. row.now) l.fn.lent ++ take l.row-index l.rows
