-- The first so many columns.
use Rattle.std.proofs.Common.{◌≡◌, take}
use Rattle.driver.proofs.accepting.accepted_columns.Given as goal

abbrev pub invariant-loop-column : goal.invariant-loop-column
invariant-loop-column l = l.accepted ≡ take l.column-index l.columns
