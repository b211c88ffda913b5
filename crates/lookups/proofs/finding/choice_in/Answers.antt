-- A list of IN.
use Rattle.lookups.proofs.finding.choice_in.Goals as goal

pub returns-in-In : goal.returns-in-In
returns-in-In c = rw (c.in-In.is, ← c.deref.ensures.value) (c.choice_of.ensures c.in-In.at)
