-- The transactions of 64 sessions, of which memory is taken for the first ones only.
use Rattle.std.specs.Prelude.{ℕ, ◌-◌, List, ◌++◌, length, replicate, Option, None}
use Rattle.transactions.specs.Stores.{Transaction}

abbrev pub slots_of : {A : Type 0} → List (Option A) → List (Option A)
slots_of held = held ++ replicate (64 - length held) None

pub record Slots : Type 0 where
  pub transactions : List (Option Transaction)
  pub reached : ℕ
