-- What was said of keys last, over what was said of them before.
use Rattle.std.specs.Prelude.{ℕ, List, [], ◌∷◌, Option, None, if◌then◌else◌}
use Rattle.ae_base.specs.Atoms.{Atom}
use Rattle.operators.specs.Alike.{are_alike}

-- keys, each with a number, or with none from then on
abbrev pub Level : Type 0
Level = List (List Atom × Option ℕ)

-- what a level says of a key, or else what was said before
abbrev pub number_through : Level → (before : List Atom → Option ℕ) → List Atom → Option ℕ
number_through [] before key = before key
number_through (e ∷ level) before key = if are_alike key e.0 then e.1 else number_through level before key

-- what levels say, the oldest first
abbrev pub number_over : (before : List Atom → Option ℕ) → List Level → List Atom → Option ℕ
number_over before [] key = before key
number_over before (level ∷ levels) key = number_over (number_through level before) levels key

abbrev pub number_under : List Level → List Atom → Option ℕ
number_under levels key = number_over (λ k. None) levels key
