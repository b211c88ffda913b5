-- The bytes so far are those of the characters so far.
use Rattle.std.proofs.Common.{◌≡◌}
use Rattle.value_norm.specs.Norm.{utf16le}
use Rattle.value_norm.proofs.utf16.utf16le.Given as goal

abbrev pub invariant-loop-character : goal.invariant-loop-character
invariant-loop-character l = l.bytes.items ≡ utf16le l.yielded
