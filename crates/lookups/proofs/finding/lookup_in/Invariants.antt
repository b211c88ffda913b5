-- None of the keys so far has its values.
use Rattle.std.proofs.Common.{◌≡◌, drop}
use Rattle.lookups.specs.Conjuncts.{lent}
use Rattle.lookups.specs.Lookups.{lookup_in}
use Rattle.lookups.proofs.finding.lookup_in.Given as goal

abbrev pub invariant-loop-key : goal.invariant-loop-key
invariant-loop-key l = lookup_in l.width l.more (lent l.conditions) l.keys ≡ lookup_in l.width l.more (lent l.conditions) (drop l.key-index l.keys)
