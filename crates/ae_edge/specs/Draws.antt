-- What a call on a random source draws.
use Rattle.std.specs.Prelude.{◌≡◌, ℕ, ◌≤◌, List, length, take, drop}
use Rattle.ae_edge.specs.Devices.{Rose, Stays}
use Rattle.ae_edge.specs.declared.entropies.Draw.{Draw}
use Rattle.ae_edge.specs.declared.entropies.Draw.TheVariants.{Drawn, Failed}

-- the next sixteen bytes to come are given and removed, else they stay
abbrev pub Draws : Draw → List ℕ → List ℕ → Type 0
Draws (Drawn bytes) old new = (16 ≤ length old) × (bytes ≡ take 16 old) × (new ≡ drop 16 old)
Draws Failed old new = new ≡ old

-- the count of faults stays, but where the call failed
abbrev pub CountsDraw : Draw → ℕ → ℕ → Type 0
CountsDraw (Drawn bytes) = Stays
CountsDraw Failed = Rose
