-- One of the pages that are left has the number.
use Rattle.std.proofs.Common.{◌≤◌, ◌-◌, length}
use Rattle.row_store.specs.Paged.{values}
use Rattle.row_store.proofs.Numbering.{IsInside}
use Rattle.row_store.proofs.numbers.page_of.Given as goal

abbrev pub invariant-halves : goal.invariant-halves
invariant-halves l = record {
  within : l.high ≤ length l.pages;
  inside : IsInside (values l.pages) l.number l.low l.high;
}

abbrev pub decreases-halves : goal.decreases-halves
decreases-halves l = l.high - l.low
