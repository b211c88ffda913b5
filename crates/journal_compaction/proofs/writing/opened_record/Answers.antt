-- The gate, the length and the bytes.
use Rattle.std.proofs.Common.{rules}
use Rattle.journal_compaction.proofs.Putting.{opened_is}
use Rattle.journal_compaction.proofs.writing.opened_record.Goals as goal

pub returns : goal.returns
returns c = rw (opened_is c.args.entry.now) (search rules)
