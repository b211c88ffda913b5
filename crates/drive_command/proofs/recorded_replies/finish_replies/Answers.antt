-- Something came, or the end, or it couldn't be read.
use Rattle.std.proofs.Common.{refl}
use Rattle.drive_command.proofs.Finishing.{finish_ends, finish_lacks, finish_more}
use Rattle.drive_command.proofs.recorded_replies.finish_replies.Goals as goal

pub returns-in-Ok-true : goal.returns-in-Ok-true
returns-in-Ok-true g c = finish_more _ _ _ _ (rw c.in-Ok-true.field-0-test at c.in-Ok-true.ensures)

pub returns-in-Ok-false : goal.returns-in-Ok-false
returns-in-Ok-false g c = finish_ends _ _ _ _ (c.if-not-is_empty.ensures.held refl).0 (rw c.in-Ok-false.field-0-test at c.in-Ok-false.ensures)

pub returns-in-Err : goal.returns-in-Err
returns-in-Err g c = let e = c.if-not-is_empty.ensures.held refl in finish_lacks _ _ _ _ _ e.0 e.1 c.in-Err.ensures
