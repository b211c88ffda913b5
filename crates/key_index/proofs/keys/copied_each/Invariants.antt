-- The atoms so far.
use Rattle.std.proofs.Common.{◌≡◌, take}
use Rattle.operators.specs.Alike.{key_of}
use Rattle.key_index.proofs.keys.copied_each.Given as goal

abbrev pub invariant-loop-place : goal.invariant-loop-place
invariant-loop-place g l = l.atoms.items ≡ key_of (take l.place-index l.places) l.row
