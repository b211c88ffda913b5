-- Facts on each number below a bound, by a test that computes.
use Rattle.std.proofs.Common.{◌≡◌, ℕ, ◌<◌, ◌==◌, true}
use Rattle.std.proofs.lemmas.Bool.{agree_below, agree_below_at, eqb-true}

-- f and g give one value at each of the numbers below n
abbrev pub SameBelow : (ℕ → ℕ) → (ℕ → ℕ) → ℕ → Type 0
SameBelow f g n = agree_below (λ x. f x == g x) (λ _. true) n ≡ true

pub same_below : (f g : ℕ → ℕ) (n x : ℕ) → SameBelow f g n → x < n → f x ≡ g x
same_below f g n x same low = eqb-true (f x) (g x) (agree_below_at (λ y. f y == g y) (λ _. true) n x same low)
