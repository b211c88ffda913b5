-- Fewer columns are left.
use Rattle.std.proofs.Common.{length}
use Rattle.column_rotate.proofs.texts.+push_more_placeholders.Given as goal

abbrev pub decreases-push_more_placeholders : goal.decreases-push_more_placeholders
decreases-push_more_placeholders l = length l.columns.now
