-- What is there, with the others, is the whole.
use Rattle.std.proofs.Common.{◌≡◌, ◌++◌, drop}
use Rattle.resolve.proofs.definitions.add_all.Given as goal

abbrev pub invariant-loop-key : goal.invariant-loop-key
invariant-loop-key l =
    l.keyed ++ drop l.key-index l.keys ≡ l.fn.keyed ++ l.keys
