-- The bytes of a record, or no memory for them.
use Rattle.std.proofs.Common.{◌∷◌, length, ap, arith}
use Rattle.journal_core.specs.Journals.{framed}
use Rattle.journal_compaction.proofs.Putting.{length_framed, put_nothing}
use Rattle.journal_compaction.proofs.writing.put_record.Goals as goal

pub put_behind-requires-clause-room : goal.put_behind-requires-clause-room
put_behind-requires-clause-room g c = omega (arith, c.requires.room, ap length c.as_slice.ensures.value, ap length c.in-Ok.ensures, length_framed c.args.entry.now)

pub returns-in-Err-clause-content : goal.returns-in-Err-clause-content
returns-in-Err-clause-content g c = put_nothing (1 ∷ framed c.args.entry.now) _
