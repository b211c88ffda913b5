-- The size so far is that of the first atoms.
use Rattle.std.proofs.Common.{◌≡◌, ◌≤◌, ◌*◌, length, take}
use Rattle.std.specs.List.{flat_map}
use Rattle.wire_encoding.specs.Spelling.{atom}
use Rattle.wire_encoding.proofs.sizes.row_size.Given as goal

abbrev pub invariant-loop-atom : goal.invariant-loop-atom
invariant-loop-atom l = record {
  size : l.size ≡ length (flat_map atom (take l.atom-index l.atoms));
  within : l.size ≤ 16387 * l.atom-index;
}
