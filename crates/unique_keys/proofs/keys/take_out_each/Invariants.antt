-- The indexes so far have lost the rows.
use Rattle.std.proofs.Common.{◌≡◌, drop}
use Rattle.unique_keys.proofs.Admission.{AreTaken}
use Rattle.unique_keys.proofs.keys.take_out_each.Given as goal

abbrev pub invariant-loop-keys : goal.invariant-loop-keys
invariant-loop-keys g l = record {
  taken : AreTaken l.fn.keys l.i l.fn.indexes.items l.indexes.items;
  left : l.keys-iterator.rest.items ≡ drop l.i l.fn.keys;
}
