use Rattle.std.proofs.Common.{sym}
use Rattle.sql_expressions.proofs.Joined.{all_joined}
use Rattle.sql_expressions.proofs.conditions.all_of.Goals as goal

pub returns : goal.returns
returns c = all_joined c.args.first c.args.more c.in_ok-before.field-0 c.in_ok-before.ensures (sym c.if-is_empty.ensures)
