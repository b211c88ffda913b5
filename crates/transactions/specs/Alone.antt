-- The results of the other sessions' calls by themselves.
use Rattle.std.specs.Prelude.{◌≡◌, ℕ, ◌-◌, ◌==◌, List, [], ◌∷◌, Bool, true, if◌then◌else◌}
use Rattle.transactions.specs.Serial.{Call}
use Rattle.transactions.specs.Stores.{Store, transact}

abbrev pub is_of : ℕ → Call → Bool
is_of session call = (call.session - 1) == (session - 1)

-- the calls of all but one session
abbrev pub others_of : ℕ → List Call → List Call
others_of session [] = []
others_of session (call ∷ calls) = if is_of session call then others_of session calls else call ∷ others_of session calls

-- no call of the session changes the shared world, as an accepted change outside a transaction does, or an accepted COMMIT of changes
abbrev pub LeavesShared : ℕ → Store → List Call → Type 0
LeavesShared session store [] = Unit {0}
LeavesShared session store (call ∷ calls) =
    (is_of session call ≡ true → (transact store call.session call.ask).after.shared ≡ store.shared) × LeavesShared session (transact store call.session call.ask).after calls
