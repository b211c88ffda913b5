-- The atoms so far.
use Rattle.std.proofs.Common.{◌≡◌, take}
use Rattle.operators.proofs.alike.atoms_of.Given as goal

abbrev pub invariant-loop-atom : goal.invariant-loop-atom
invariant-loop-atom g l = l.atoms.items ≡ take l.atom-index l.atom-items
