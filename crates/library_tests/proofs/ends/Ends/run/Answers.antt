-- What the driver keeps stays while a batch is described, and so stays the vault's.
use Rattle.std.proofs.Common.{Some}
use Rattle.library_tests.proofs.Keeping.{of_same}
use Rattle.library_tests.proofs.ends.Ends.run.Goals as goal

pub invariant_of-self : goal.invariant_of-self
invariant_of-self c =
    of_same (Some c.self.inside.vault.keys) c.self.inside.driver.kept c.describe.new.driver.kept c.describe.ensures c.self.invariant

pub invariant_of-self-in-Some : goal.invariant_of-self-in-Some
invariant_of-self-in-Some c =
    of_same (Some c.self.inside.vault.keys) c.self.inside.driver.kept c.describe.new.driver.kept c.describe.ensures c.self.invariant

pub execute-requires : goal.execute-requires
execute-requires c =
    of_same (Some c.self.inside.vault.keys) c.self.inside.driver.kept c.describe.new.driver.kept c.describe.ensures c.self.invariant
