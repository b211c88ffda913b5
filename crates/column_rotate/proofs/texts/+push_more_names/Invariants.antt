-- Fewer columns are left.
use Rattle.std.proofs.Common.{length}
use Rattle.column_rotate.proofs.texts.+push_more_names.Given as goal

abbrev pub decreases-push_more_names : goal.decreases-push_more_names
decreases-push_more_names l = length l.columns.now
