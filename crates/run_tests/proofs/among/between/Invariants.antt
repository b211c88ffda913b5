-- Nobody asks anything so far.
use Rattle.rotate_among.specs.Moving.{AreOthers}
use Rattle.run_tests.proofs.among.between.Given as goal

abbrev pub invariant-requests : goal.invariant-requests
invariant-requests l = AreOthers 1 l.between.items
