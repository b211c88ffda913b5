-- The keys so far are looked up.
use Rattle.key_index.proofs.Seeking.{AreLookedUp}
use Rattle.key_index.proofs.lookups.first_among.Given as goal

abbrev pub invariant-loop-i : goal.invariant-loop-i
invariant-loop-i g l = AreLookedUp l.gone l.index l.keys l.i l.seen l.fn.lookups l.lookups
