use Rattle.std.proofs.Common.{length}
use Rattle.run_tests.proofs.renamed.renamed.Given as goal

abbrev pub decreases-bytes : goal.decreases-bytes
decreases-bytes l = length l.rest
