-- The numbers of rows by their keys.
use Rattle.std.specs.Prelude.{◌≡◌, ℕ, List, [], ◌∷◌, Option, Some, None, if◌then◌else◌}
use Rattle.std.specs.List.{list_any}
use Rattle.ae_base.specs.Atoms.{Atom}
use Rattle.operators.specs.Alike.{are_alike}
use Rattle.key_index.specs.Levels.{Level, number_through, number_under}

-- what was said of keys last, over the levels below, the oldest first, and how many keys more there is room for
pub record Keyed : Type 0 where
  pub top : Level
  pub below : List Level
  pub spare : ℕ

-- the number of a key
abbrev pub number_at : Keyed → List Atom → Option ℕ
number_at index key = number_through index.top (number_under index.below) key

-- no key has a number
abbrev pub HasNone : Keyed → Type 0
HasNone index = (key : List Atom) → number_at index key ≡ None

-- all keys have the numbers that they had
abbrev pub HasSame : Keyed → Keyed → Type 0
HasSame old new = (key : List Atom) → number_at new key ≡ number_at old key

-- a key has this number or none, and all others have those that they had
abbrev pub HasNumber : Keyed → Keyed → List Atom → Option ℕ → Type 0
HasNumber old new key number = (other : List Atom) → number_at new other ≡ (if are_alike other key then number else number_at old other)

-- what is found of a key once some keys are put in, each with a number
abbrev pub put_in : List Atom → Option ℕ → (numbers : List ℕ) → (keys : List (List Atom)) → Option ℕ
put_in key found numbers [] = found
put_in key found [] (k ∷ keys) = found
put_in key found (n ∷ numbers) (k ∷ keys) = put_in key (if are_alike key k then Some n else found) numbers keys

-- and once some are taken out
abbrev pub taken_out : List Atom → Option ℕ → (keys : List (List Atom)) → Option ℕ
taken_out key found keys = if list_any (are_alike key) keys then None else found
