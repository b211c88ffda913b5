-- The indexes so far have the rows.
use Rattle.std.proofs.Common.{◌≡◌, drop}
use Rattle.unique_keys.proofs.Admission.{ArePut}
use Rattle.unique_keys.proofs.keys.put_in_each.Given as goal

abbrev pub invariant-loop-keys : goal.invariant-loop-keys
invariant-loop-keys g l = record {
  are_put : ArePut l.numbers l.fn.keys l.i l.fn.indexes.items l.indexes.items;
  left : l.keys-iterator.rest.items ≡ drop l.i l.fn.keys;
}
