-- So many sessions that accepted nothing.
use Rattle.std.proofs.Common.{◌≡◌, replicate, None}
use Rattle.driver.proofs.accepting.none_accepted.Given as goal

abbrev pub invariant-loop : goal.invariant-loop
invariant-loop l = l.accepted.items ≡ replicate l.counter None
