use Rattle.std.proofs.Common.{Some}
use Rattle.crypto_tests.proofs.opening.Client.new.Goals as goal

pub invariant_of-result : goal.invariant_of-result
invariant_of-result c = c.in_ok-new.ensures (Some c.new-2.result.keys)
