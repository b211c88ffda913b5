-- One thing or two as a list.
use Rattle.std.specs.Prelude.{List, [], ◌∷◌, Option, Some, None}
use Rattle.std.specs.Option.{option_map}
use Rattle.ae_base.specs.declared.one_or_two.OneOrTwo.{OneOrTwo}

abbrev pub behind : {A : Type 0} → Option A → List A
behind None = []
behind (Some x) = x ∷ []

abbrev pub each_of : {A : Type 0} → OneOrTwo A → List A
each_of xs = xs.first ∷ behind xs.second

abbrev pub only : {A : Type 0} → A → OneOrTwo A
only x = record { first = x; second = None }

abbrev pub each_made : {A B : Type 0} → (A → B) → OneOrTwo A → OneOrTwo B
each_made f xs = record { first = f xs.first; second = option_map f xs.second }
