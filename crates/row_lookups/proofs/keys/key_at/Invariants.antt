-- The atoms so far.
use Rattle.std.proofs.Common.{◌≡◌, take}
use Rattle.lookups.specs.Lent.{operands_lent}
use Rattle.lookups.specs.Lookups.{key_at}
use Rattle.row_lookups.proofs.keys.key_at.Given as goal

abbrev pub invariant-loop-value : goal.invariant-loop-value
invariant-loop-value g l = l.key ≡ key_at l.params l.row (operands_lent (take l.value-index l.values))
