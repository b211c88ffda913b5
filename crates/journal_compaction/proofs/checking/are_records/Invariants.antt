-- Those so far may be records.
use Rattle.std.proofs.Common.{take}
use Rattle.std.specs.List.{All}
use Rattle.journal_core.specs.Records.{IsRecord}
use Rattle.journal_compaction.proofs.checking.are_records.Given as goal

abbrev pub invariant-entries : goal.invariant-entries
invariant-entries l = All IsRecord (take l.entry-index l.entries)
