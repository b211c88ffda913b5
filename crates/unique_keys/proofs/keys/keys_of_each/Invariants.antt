-- The keys of the indexes so far.
use Rattle.std.proofs.Common.{◌≡◌, map, take}
use Rattle.unique_keys.specs.Admitting.{keys_for}
use Rattle.unique_keys.specs.Indexes.{keys_of}
use Rattle.unique_keys.proofs.keys.keys_of_each.Given as goal

abbrev pub invariant-loop-index : goal.invariant-loop-index
invariant-loop-index g l = l.all ≡ keys_for (take l.index-index (keys_of l.indexes)) (map (λ row. row.now) l.rows)
