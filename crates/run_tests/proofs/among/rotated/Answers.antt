-- The driver keeps keys of any vault alone.
use Rattle.std.proofs.Common.{Some}
use Rattle.run_tests.proofs.among.rotated.Goals as goal

pub rotate_among-requires-clause-of_vault : goal.rotate_among-requires-clause-of_vault
rotate_among-requires-clause-of_vault c = c.requires.of_vault (Some c.in_ok-vault.vault.keys)
