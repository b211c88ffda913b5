-- One row fewer.
use Rattle.column_rotate.proofs.Rows.{behind_at}
use Rattle.column_rotate.proofs.sent.RowsLeft.behind.Goals as goal

pub returns-then-taken-len : goal.returns-then-taken-len
returns-then-taken-len c = rw (← c.self.view_is) (behind_at c.self.inside.taken c.self.inside.rows)
