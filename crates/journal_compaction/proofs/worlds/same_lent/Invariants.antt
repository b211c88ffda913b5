-- The rows so far are the same.
use Rattle.std.proofs.Common.{◌≡◌, length, map, take}
use Rattle.journal_compaction.proofs.worlds.same_lent.Given as goal

abbrev pub invariant-rows : goal.invariant-rows
invariant-rows l = record {
  same : take l.i (map (λ row. row.now) l.rows) ≡ take l.i (map (λ row. row.now) l.others);
  long : length l.rows ≡ length l.others;
}
