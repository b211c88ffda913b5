-- The keys so far, which no index so far refuses.
use Rattle.std.proofs.Common.{◌≡◌, ◌++◌, ℕ, Bool, List, length, map, take}
use Rattle.std.specs.List.{All}
use Rattle.ae_base.specs.Atoms.{Atom}
use Rattle.row_store.specs.Changes.{hit, unhit}
use Rattle.row_store.specs.Numbers.{AreRising}
use Rattle.unique_keys.specs.Admitting.{keys_for}
use Rattle.unique_keys.specs.Indexes.{AreDistinct, IndexesRows, keys_of}
use Rattle.unique_keys.proofs.Admission.{NoneRefuses}
use Rattle.unique_keys.proofs.keys.new_keys.Given as goal

abbrev pub invariant-loop-i : goal.invariant-loop-i
invariant-loop-i g l = record {
  keys : l.all ≡ keys_for (take l.i (keys_of l.indexes)) (map (λ row. row.now) l.rows);
  none : (known : List ℕ) (there : List (List Atom)) (hits : List Bool) (to : ℕ) → length known ≡ length there
      → AreRising 0 to known → All (IndexesRows known there) l.indexes → AreDistinct (keys_of l.indexes) there → l.gone ≡ hit known hits
      → NoneRefuses l.indexes (unhit there hits ++ map (λ row. row.now) l.rows) l.i;
}
