-- Two rising lists with the same numbers are the same.
use Rattle.std.proofs.Common.{◌≡◌, ◌⊎◌, ℕ, zero, suc, ◌<◌, List, [], ◌∷◌, refl, ap, sym, ◌∙◌, subst, arith, inl, inr}
use Rattle.std.specs.List.{AllPairs, Contains}
use Rattle.std.proofs.lemmas.Map.Made.{Contains-tail}

abbrev pub Rises : List ℕ → Type 0
Rises xs = AllPairs (λ x y. x < y) xs

rises_tail : (x : ℕ) (xs : List ℕ) → Rises (x ∷ xs) → Rises xs
rises_tail x xs h = λ i j d lt le. h (suc i) (suc j) d (omega (arith, lt)) (omega (arith, le))

-- the first is below the others
first_below : (x : ℕ) (xs : List ℕ) (y : ℕ) → Rises (x ∷ xs) → Contains xs y → x < y
first_below x xs y h (k, lt, e) = subst (λ z. x < z) e (h 0 (suc k) y (omega arith) (omega (arith, lt)))

-- an item is the first, or one of the others
first_or : (x : ℕ) (xs : List ℕ) (y : ℕ) → Contains (x ∷ xs) y → (x ≡ y) ⊎ Contains xs y
first_or x xs y (zero, lt, e) = inl e
first_or x xs y (suc k, lt, e) = inr (k, omega (arith, lt), e)

contains_first : (x : ℕ) (xs : List ℕ) → Contains (x ∷ xs) x
contains_first x xs = (0, omega arith, refl)

contains_next : (x : ℕ) (xs : List ℕ) (y : ℕ) → Contains xs y → Contains (x ∷ xs) y
contains_next x xs y (k, lt, e) = (suc k, omega (arith, lt), e)

same_first : (x y : ℕ) (xs ys : List ℕ) → Rises (x ∷ xs) → Rises (y ∷ ys) → Contains (y ∷ ys) x → Contains (x ∷ xs) y → x ≡ y
same_first x y xs ys h k a b = by_cases (first_or y ys x a) (first_or x xs y b)
  where
    by_cases : (y ≡ x) ⊎ Contains ys x → (x ≡ y) ⊎ Contains xs y → x ≡ y
    by_cases (inl e) c = sym e
    by_cases (inr c) (inl e) = e
    by_cases (inr c) (inr d) = let up = first_below y ys x k c in let down = first_below x xs y h d in absurd (omega (arith, up, down))

others : (x y : ℕ) (xs ys : List ℕ) → x ≡ y → Rises (x ∷ xs) → ((z : ℕ) → Contains (x ∷ xs) z → Contains (y ∷ ys) z) → (z : ℕ) → Contains xs z → Contains ys z
others x y xs ys e h c z there =
    let less = first_below x xs z h there in
    Contains-tail y ys z (λ s. absurd (omega (arith, less, e, s))) (c z (contains_next x xs z there))

pub same_rising : (xs ys : List ℕ) → Rises xs → Rises ys → ((x : ℕ) → Contains xs x → Contains ys x) → ((x : ℕ) → Contains ys x → Contains xs x) → xs ≡ ys
same_rising [] [] h k a b = refl
same_rising [] (y ∷ ys) h k a b = let none = b y (contains_first y ys) in absurd (omega (arith, none.1))
same_rising (x ∷ xs) [] h k a b = let none = a x (contains_first x xs) in absurd (omega (arith, none.1))
same_rising (x ∷ xs) (y ∷ ys) h k a b =
    let first : x ≡ y = same_first x y xs ys h k (a x (contains_first x xs)) (b y (contains_first y ys)) in
    let rest = same_rising xs ys (rises_tail x xs h) (rises_tail y ys k) (others x y xs ys first h a) (others y x ys xs (sym first) k b) in
    ap (λ z. z ∷ xs) first ∙ ap (λ l. y ∷ l) rest
