-- The indexes so far.
use Rattle.std.proofs.Common.{◌≡◌, [], take}
use Rattle.std.specs.List.{All}
use Rattle.unique_keys.specs.Indexes.{IndexesRows, keys_of}
use Rattle.indexed_tables.proofs.tables.indexes_on.Given as goal

abbrev pub invariant-loop-key : goal.invariant-loop-key
invariant-loop-key g l = record {
  keys : keys_of l.indexes.items ≡ take l.key-index l.keys;
  indexed : All (IndexesRows [] []) l.indexes.items;
}
