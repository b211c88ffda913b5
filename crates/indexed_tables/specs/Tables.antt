-- What a table holds: its unique keys, and its rows in the order in which they came.
use Rattle.std.specs.Prelude.{ℕ, ◌+◌, List, [], ◌∷◌, if◌then◌else◌}
use Rattle.ae_base.specs.Atoms.{Atom}
use Rattle.operators.specs.Alike.{are_alike}

pub record Held : Type 0 where
  pub keys : List (List ℕ)
  pub rows : List (List Atom)

-- the places, counted on from a number, of those keys that are alike to another
abbrev pub places_from : ℕ → List Atom → List (List Atom) → List ℕ
places_from n key [] = []
places_from n key (k ∷ keys) = if are_alike key k then n ∷ places_from (n + 1) key keys else places_from (n + 1) key keys
