use Rattle.std.proofs.Common.{length}
use Rattle.run_tests.proofs.runs.apart.Given as goal

abbrev pub decreases-frames : goal.decreases-frames
decreases-frames l = length l.rest
