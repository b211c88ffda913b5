-- The indexes stay of the rows that they were of.
use Rattle.std.proofs.Common.{◌≡◌, length}
use Rattle.unique_keys.proofs.Admission.{AreKept}
use Rattle.unique_keys.proofs.keys.seal_each.Given as goal

abbrev pub invariant-loop-i : goal.invariant-loop-i
invariant-loop-i g l = record {
  kept : AreKept l.fn.indexes.items l.indexes.items;
  long : length l.indexes.items ≡ length l.fn.indexes.items;
}
