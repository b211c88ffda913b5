-- None of the atoms so far is NULL.
use Rattle.std.proofs.Common.{◌≡◌, drop}
use Rattle.hash_joins.specs.Keyed.{no_nulls}
use Rattle.row_lookups.proofs.keys.has_null.Given as goal

abbrev pub invariant-loop-atom : goal.invariant-loop-atom
invariant-loop-atom g l = no_nulls l.key ≡ no_nulls (drop l.atom-index l.key)
