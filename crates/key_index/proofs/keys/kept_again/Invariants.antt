-- The atoms so far.
use Rattle.std.proofs.Common.{◌≡◌, take}
use Rattle.key_index.proofs.keys.kept_again.Given as goal

abbrev pub invariant-loop-kept : goal.invariant-loop-kept
invariant-loop-kept g l = l.copy.items ≡ take l.kept-index l.atoms
