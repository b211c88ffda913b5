-- The copies so far.
use Rattle.std.proofs.Common.{◌≡◌, ℕ, List, take}
use Rattle.std.specs.List.{All}
use Rattle.ae_base.specs.Atoms.{Atom}
use Rattle.unique_keys.specs.Indexes.{IndexesRows, keys_of}
use Rattle.unique_keys.proofs.keys.copied.Given as goal

abbrev pub invariant-loop-index : goal.invariant-loop-index
invariant-loop-index g l = record {
  keys : keys_of l.copy.items ≡ keys_of (take l.index-index l.indexes);
  indexed : (numbers : List ℕ) (rows : List (List Atom)) → All (IndexesRows numbers rows) l.indexes → All (IndexesRows numbers rows) l.copy.items;
}
