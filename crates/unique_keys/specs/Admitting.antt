-- The keys of new rows.
use Rattle.std.specs.Prelude.{ℕ, List, map}
use Rattle.ae_base.specs.Atoms.{Atom}
use Rattle.operators.specs.Alike.{key_of}

-- what rows have in the columns of each unique key
abbrev pub keys_for : List (List ℕ) → List (List Atom) → List (List (List Atom))
keys_for keys rows = map (λ key. map (key_of key) rows) keys
