use Rattle.std.proofs.Common.{Some}
use Rattle.library_tests.proofs.ends.Ends.new.Goals as goal

pub invariant_of-result : goal.invariant_of-result
invariant_of-result c = c.in_ok-new.ensures.of_vault (Some c.args.vault.keys)
