-- The items so far are equal.
use Rattle.std.proofs.Common.{◌≡◌, length, take}
use Rattle.journal_compaction.proofs.equality.equal_items.Given as goal

abbrev pub invariant-items : goal.invariant-items
invariant-items g l = record {
  same : take l.i l.items ≡ take l.i l.others;
  long : length l.items ≡ length l.others;
}
