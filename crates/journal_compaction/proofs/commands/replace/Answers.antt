-- Records were made of the old file's journal.
use Rattle.journal_compaction.proofs.Compacting.{counts_all}
use Rattle.journal_compaction.proofs.commands.replace.Goals as goal

pub returns-in-Ok-clause-counts : goal.returns-in-Ok-clause-counts
returns-in-Ok-clause-counts g c = counts_all c.write_tested.result c.args.server.now _ _ _ _ _ _ c.write_tested.ensures.writes c.in-Ok.ensures.counts c.write_tested.ensures.counts
