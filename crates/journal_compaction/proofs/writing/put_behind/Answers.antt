-- The write begins at the end of the file.
use Rattle.journal_compaction.proofs.Putting.{at_end, put_so}
use Rattle.journal_compaction.proofs.writing.put_behind.Goals as goal

pub write-requires-clause-inside : goal.write-requires-clause-inside
write-requires-clause-inside g c = at_end c.args.at _ c.requires.end

pub returns-clause-content : goal.returns-clause-content
returns-clause-content g c = put_so c.write.result c.args.at c.args.bytes.now _ _ c.requires.end c.write.ensures.content
