-- By the one reading of bytes.
use Rattle.journal_compaction.proofs.Same.{the_same}
use Rattle.journal_compaction.proofs.laws.compacted_is_the_same.Goals as goal

pub returns : goal.returns
returns c = the_same c.one_reading.ensures.requests
