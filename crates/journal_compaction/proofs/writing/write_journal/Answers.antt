-- The file is cut, and then written.
use Rattle.journal_compaction.proofs.Putting.{cut_failed, cut_then, cut_unmade, emptied}
use Rattle.journal_compaction.proofs.writing.write_journal.Goals as goal

pub write_empty-requires-clause-empty : goal.write_empty-requires-clause-empty
write_empty-requires-clause-empty g c = emptied _ _ c.in-Done.ensures.content

pub returns-in-Done-clause-content : goal.returns-in-Done-clause-content
returns-in-Done-clause-content g c = cut_then c.write_empty.result c.args.records.now _ _ _ c.in-Done.ensures.content c.write_empty.ensures.content

pub returns-in-Failed-clause-content : goal.returns-in-Failed-clause-content
returns-in-Failed-clause-content g c = cut_failed c.args.records.now _ _ c.in-Failed.ensures.content

pub returns-in-OutOfMemory-clause-content : goal.returns-in-OutOfMemory-clause-content
returns-in-OutOfMemory-clause-content g c = cut_unmade c.args.records.now _ _ c.in-OutOfMemory.ensures.content
