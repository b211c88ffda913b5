-- Where the rows lie that a look-up finds.
use Rattle.std.specs.Prelude.{ℕ, ◌+◌, List, [], ◌∷◌, Bool, if◌then◌else◌}
use Rattle.std.specs.List.{flat_map}
use Rattle.std.specs.Cmp.Lexicographic.{pointwise}
use Rattle.ae_base.specs.Atoms.{Atom, atom_eq}
use Rattle.operators.specs.Alike.{key_of}
use Rattle.sql_tree.specs.Bound.{BoundOperand}
use Rattle.lookups.specs.Lookups.{key_at}

-- the places, counted on from a number, of the rows that pass a test
abbrev pub places_where : (List Atom → Bool) → ℕ → List (List Atom) → List ℕ
places_where test n [] = []
places_where test n (row ∷ rows) = if test row then n ∷ places_where test (n + 1) rows else places_where test (n + 1) rows

-- a row's columns equal a key, atom by atom: no NULL is equal to anything
abbrev pub has_key : List ℕ → List Atom → List Atom → Bool
has_key places key next = pointwise atom_eq key (key_of places next)

-- the places of the rows with a key
abbrev pub places_with : List ℕ → List Atom → List (List Atom) → List ℕ
places_with places key rows = places_where (has_key places key) 0 rows

-- those of each of some keys, one after another
abbrev pub places_of_each : (params row : List Atom) → List ℕ → List (List BoundOperand) → List (List Atom) → List ℕ
places_of_each params row places keys rows = flat_map (λ values. places_with places (key_at params row values) rows) keys
