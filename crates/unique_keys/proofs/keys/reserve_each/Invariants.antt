-- The indexes so far have room.
use Rattle.std.proofs.Common.{◌≡◌, length}
use Rattle.unique_keys.proofs.Admission.{AreReserved}
use Rattle.unique_keys.proofs.keys.reserve_each.Given as goal

abbrev pub invariant-loop-i : goal.invariant-loop-i
invariant-loop-i g l = record {
  reserved : AreReserved l.count l.i l.fn.indexes.items l.indexes.items;
  long : length l.indexes.items ≡ length l.fn.indexes.items;
}
