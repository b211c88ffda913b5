-- The entries of a journal, made fewer.
use Rattle.std.specs.Prelude.{◌≡◌, ℕ, List}
use Rattle.server_core.specs.Serve.{empty_state}
use Rattle.journal_command.specs.Keeping.{Asked}
use Rattle.journal_command.specs.Restarts.{AreServedRecords, state_behind}

-- Both are the bytes of records that are served again from the state in which nothing is defined. The fewer lead to the world of
-- the others: to its catalog, with its version and the numbers of its keys, and to the same rows of each table in the same order.
pub record IsCompaction (entries fewer : List (List ℕ)) : Type 0 where
  pub records : List (List Asked)
  pub others : List (List Asked)
  pub read : AreServedRecords empty_state records entries
  pub written : AreServedRecords empty_state others fewer
  pub same : (state_behind empty_state others).shared.world ≡ (state_behind empty_state records).shared.world
