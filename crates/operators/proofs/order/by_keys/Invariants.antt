-- The keys that are left decide.
use Rattle.std.proofs.Common.{◌≡◌, drop}
use Rattle.operators.specs.Found.{keys_of, keys_cmp}
use Rattle.operators.proofs.order.by_keys.Given as goal

abbrev pub invariant-loop-key : goal.invariant-loop-key
invariant-loop-key g l = keys_cmp l.keys (keys_of l.keys l.row) (keys_of l.keys l.other) ≡ keys_cmp
    (drop l.key-index l.keys) (keys_of (drop l.key-index l.keys) l.row) (keys_of (drop l.key-index l.keys) l.other)
