use Rattle.std.proofs.Common.{◌≡◌}
use Rattle.library_tests.proofs.ends.read_rows.Given as goal

abbrev pub invariant-loop-reply : goal.invariant-loop-reply
invariant-loop-reply l = l.driver.kept ≡ l.fn.driver.kept
