use Rattle.std.proofs.Common.{length}
use Rattle.hostile_tests.proofs.frames.print_frames.Given as goal

abbrev pub decreases-frames : goal.decreases-frames
decreases-frames l = length l.rest
