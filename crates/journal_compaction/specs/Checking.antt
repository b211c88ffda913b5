-- Entries that lead to a world.
use Rattle.std.specs.Prelude.{◌≡◌, ℕ, List}
use Rattle.server_core.specs.Serve.{State, empty_state}
use Rattle.journal_command.specs.Keeping.{Asked}
use Rattle.journal_command.specs.Restarts.{AreServedRecords, state_behind}

-- they are the bytes of records that are served again from the state in which nothing is defined, and lead to that of a state
pub record LeadsTo (entries : List (List ℕ)) (state : State) : Type 0 where
  pub records : List (List Asked)
  pub served : AreServedRecords empty_state records entries
  pub same : (state_behind empty_state records).shared.world ≡ state.shared.world
