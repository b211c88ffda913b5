use Rattle.std.proofs.Common.{length}
use Rattle.script_tests.proofs.kinds.kinds_of.Given as goal

abbrev pub decreases-frames : goal.decreases-frames
decreases-frames l = length l.rest
