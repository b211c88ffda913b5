-- How cells are written, with the tables of those that were seen.
use Rattle.std.specs.Prelude.{◌≡◌, ℕ, List, ◌++◌}
use Rattle.first_seen.specs.Parts.{Spot, seen_past}
use Rattle.scalar.specs.Classes.{Class}
use Rattle.tap_listing.specs.Classes.{classing}
use Rattle.tap_listing.specs.Tables.{Tables, Knows}

-- whatever cells were seen before: their text was written after, and these cells are seen now
abbrev pub Writes : (List (Spot Class) → List ℕ) → List (Spot Class) → Tables → Tables → List ℕ → List ℕ → Type 0
Writes text spots old new before after = (seen : List (Spot Class)) → Knows old seen → (after ≡ before ++ text seen) × Knows new (seen_past classing seen spots)
