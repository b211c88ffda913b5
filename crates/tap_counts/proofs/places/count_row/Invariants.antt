-- The atoms so far are counted.
use Rattle.std.proofs.Common.{◌≡◌, take}
use Rattle.tap_counts.specs.Counting.{Counts, row_places}
use Rattle.tap_counts.proofs.places.count_row.Given as goal

abbrev pub invariant-loop-atom : goal.invariant-loop-atom
invariant-loop-atom l = record {
  place : l.place ≡ l.atom-index;
  counts : Counts (row_places l.classes (take l.atom-index l.atoms)) l.fn.numbers l.numbers l.fn.tally l.tally;
}
