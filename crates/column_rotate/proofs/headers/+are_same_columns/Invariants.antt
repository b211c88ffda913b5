-- Fewer columns are left.
use Rattle.std.proofs.Common.{length}
use Rattle.column_rotate.proofs.headers.+are_same_columns.Given as goal

abbrev pub decreases-are_same_columns : goal.decreases-are_same_columns
decreases-are_same_columns l = length l.a.now
