-- Lists that are bound one after another.
use Rattle.std.specs.Prelude.{ℕ, ◌+◌, List, [], ◌∷◌, Result, Ok}
use Rattle.ae_base.specs.Results.{◌>>=◌}

-- each in turn with its number, or the first fault
abbrev pub each_from : {A B E : Type 0} → (ℕ → A → Result B E) → ℕ → List A → Result (List B) E
each_from f i [] = Ok []
each_from f i (x ∷ xs) = f i x >>= λ y. each_from f (i + 1) xs >>= λ ys. Ok (y ∷ ys)
