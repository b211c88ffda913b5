-- The rows so far are counted.
use Rattle.std.proofs.Common.{take}
use Rattle.tap_counts.specs.Counting.{Counts, rows_places}
use Rattle.tap_counts.proofs.places.count_rows.Given as goal

abbrev pub invariant-loop-row : goal.invariant-loop-row
invariant-loop-row l = Counts (rows_places l.classes (take l.row-index l.rows)) l.fn.numbers l.numbers l.fn.tally l.tally
