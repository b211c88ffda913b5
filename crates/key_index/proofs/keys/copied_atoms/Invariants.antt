-- The atoms so far.
use Rattle.std.proofs.Common.{◌≡◌, take}
use Rattle.key_index.proofs.keys.copied_atoms.Given as goal

abbrev pub invariant-loop-atom : goal.invariant-loop-atom
invariant-loop-atom g l = l.atoms.items ≡ take l.atom-index l.row
