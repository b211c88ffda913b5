-- The row that is next.
use Rattle.std.proofs.Common.{◌∙◌, arith}
use Rattle.column_rotate.proofs.Rows.{first_at}
use Rattle.column_rotate.proofs.sent.RowsLeft.first.Goals as goal

pub returns-then-self-len : goal.returns-then-self-len
returns-then-self-len c = rw (← c.self.view_is) (first_at c.self.inside.rows c.self.inside.taken _ (omega arith) (λ d. c.as_slice.ensures ∙ c.get.ensures d))
