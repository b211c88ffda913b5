-- Rows are read without the vault.
use Rattle.std.proofs.Common.{Some}
use Rattle.library_tests.proofs.Keeping.{of_same}
use Rattle.library_tests.proofs.ends.read.Goals as goal

pub returns-in-Shows : goal.returns-in-Shows
returns-in-Shows c = of_same (Some c.answered.new.vault.keys) _ _ c.read_rows.ensures c.answered.ensures.of_vault

pub returns-in_err-read_rows-in-Skips : goal.returns-in_err-read_rows-in-Skips
returns-in_err-read_rows-in-Skips c = of_same (Some c.answered.new.vault.keys) _ _ c.read_rows-in-Skips.ensures c.answered.ensures.of_vault

pub returns-in-Skips : goal.returns-in-Skips
returns-in-Skips c = of_same (Some c.answered.new.vault.keys) _ _ c.read_rows-in-Skips.ensures c.answered.ensures.of_vault
