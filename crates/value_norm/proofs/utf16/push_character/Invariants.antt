-- The bytes of the units so far stand at the end.
use Rattle.std.proofs.Common.{◌≡◌, ◌++◌, take}
use Rattle.std.specs.List.{flat_map}
use Rattle.value_norm.specs.Norm.{unit_bytes}
use Rattle.value_norm.proofs.utf16.push_character.Given as goal

abbrev pub invariant-loop-unit : goal.invariant-loop-unit
invariant-loop-unit l = l.bytes.items ≡ l.fn.bytes.items ++ flat_map unit_bytes (take l.unit-index l.units)
