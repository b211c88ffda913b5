-- The rest gets shorter.
use Rattle.std.proofs.Common.{length}
use Rattle.journal_compaction.proofs.definitions.push_defining.Given as goal

abbrev pub decreases-frames : goal.decreases-frames
decreases-frames l = length l.rest
