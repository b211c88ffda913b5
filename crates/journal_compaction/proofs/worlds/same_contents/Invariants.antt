-- The tables so far have the same rows.
use Rattle.std.proofs.Common.{◌≡◌, length, take}
use Rattle.engine.specs.Held.{contents_of}
use Rattle.journal_compaction.proofs.worlds.same_contents.Given as goal

abbrev pub invariant-tables : goal.invariant-tables
invariant-tables l = record {
  same : take l.i (contents_of l.tables) ≡ take l.i (contents_of l.others);
  long : length l.tables ≡ length l.others;
}
