-- What is left of an even number of bytes is nothing.
use Rattle.std.proofs.Common.{arith}
use Rattle.value_norm.proofs.Units.{whole_units}
use Rattle.value_norm.proofs.utf16.units_of.Goals as goal

pub returns : goal.returns
returns c = whole_units _ _ _ c.loop-rest.invariant (omega arith)
