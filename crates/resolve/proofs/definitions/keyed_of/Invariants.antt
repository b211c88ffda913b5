-- The columns so far stand before the others.
use Rattle.std.proofs.Common.{◌≡◌, ◌++◌, drop}
use Rattle.std.specs.List.{flat_map}
use Rattle.resolve.proofs.definitions.keyed_of.Given as goal

abbrev pub invariant-loop-keys : goal.invariant-loop-keys
invariant-loop-keys l =
    l.keyed ++ flat_map (λ keys. keys) (drop l.keys-index l.lists) ≡ l.fn.words ++ flat_map (λ keys. keys) l.lists
