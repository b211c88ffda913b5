-- Three lists of slots side by side, of which one slot each is set.
use Rattle.std.proofs.Common.{◌≡◌, ◌<◌, ℕ, zero, suc, List, [], ◌∷◌, length, refl, arith, Option, Some, None}
use Rattle.std.specs.Prelude.{slice_set, slice_index_or, replicate}

-- R holds at each place
abbrev pub AllAt : {A B C : Type 0} → (ℕ → A → B → C → Type 0) → A → B → C → List A → List B → List C → Type 0
AllAt R a b c xs ys zs = (k : ℕ) → R k (slice_index_or xs k a) (slice_index_or ys k b) (slice_index_or zs k c)

pub set_all : {A B C : Type 0} (R : ℕ → A → B → C → Type 0) (a : A) (b : B) (c : C) (xs : List A) (ys : List B) (zs : List C) (j : ℕ) (x : A) (y : B) (z : C)
    → length xs ≡ length ys → length xs ≡ length zs → AllAt R a b c xs ys zs
    → R j x y z → AllAt R a b c (slice_set xs j x) (slice_set ys j y) (slice_set zs j z)
set_all R a b c [] [] [] j x y z m n old new k = old k
set_all R a b c [] [] (w ∷ zs) j x y z m n old new k = absurd (omega arith)
set_all R a b c [] (v ∷ ys) zs j x y z m n old new k = absurd (omega arith)
set_all R a b c (u ∷ xs) [] zs j x y z m n old new k = absurd (omega arith)
set_all R a b c (u ∷ xs) (v ∷ ys) [] j x y z m n old new k = absurd (omega arith)
set_all R a b c (u ∷ xs) (v ∷ ys) (w ∷ zs) zero x y z m n old new zero = new
set_all R a b c (u ∷ xs) (v ∷ ys) (w ∷ zs) zero x y z m n old new (suc k) = old (suc k)
set_all R a b c (u ∷ xs) (v ∷ ys) (w ∷ zs) (suc j) x y z m n old new zero = old zero
set_all R a b c (u ∷ xs) (v ∷ ys) (w ∷ zs) (suc j) x y z m n old new (suc k) =
    set_all (λ i. R (suc i)) a b c xs ys zs j x y z (omega arith) (omega arith) (λ i. old (suc i)) new k

pub set_long : {A : Type 0} (xs : List A) (k : ℕ) (x : A) → length (slice_set xs k x) ≡ length xs
set_long [] k x = refl
set_long (y ∷ xs) zero x = refl
set_long (y ∷ xs) (suc k) x = let h = set_long xs k x in omega (arith, h)

pub set_none : {A : Type 0} (xs : List (Option A)) (k : ℕ) → slice_index_or (slice_set xs k None) k None ≡ None
set_none [] k = refl
set_none (x ∷ xs) zero = refl
set_none (x ∷ xs) (suc k) = set_none xs k

-- a slot that holds something is set to what it is given
pub set_there : {A : Type 0} (xs : List (Option A)) (k : ℕ) (x : A) (y : Option A) → slice_index_or xs k None ≡ Some x → slice_index_or (slice_set xs k y) k None ≡ y
set_there [] k x y h = absurd cc
set_there (z ∷ xs) zero x y h = refl
set_there (z ∷ xs) (suc k) x y h = set_there xs k x y h

pub set_within : {A : Type 0} (xs : List (Option A)) (k : ℕ) (y : Option A) → k < length xs → slice_index_or (slice_set xs k y) k None ≡ y
set_within [] k y h = absurd (omega (arith, h))
set_within (z ∷ xs) zero y h = refl
set_within (z ∷ xs) (suc k) y h = set_within xs k y (omega (arith, h))

pub there_within : {A : Type 0} (xs : List (Option A)) (k : ℕ) (x : A) → slice_index_or xs k None ≡ Some x → k < length xs
there_within [] k x e = absurd cc
there_within (y ∷ xs) zero x e = omega arith
there_within (y ∷ xs) (suc k) x e = let h = there_within xs k x e in omega (arith, h)

pub nothing_long : {A : Type 0} (n : ℕ) (x : A) → length (replicate n x) ≡ n
nothing_long zero x = refl
nothing_long (suc n) x = let h = nothing_long n x in omega (arith, h)

pub nothing_at : {A : Type 0} (n k : ℕ) (x : A) → slice_index_or (replicate n x) k x ≡ x
nothing_at zero k x = refl
nothing_at (suc n) zero x = refl
nothing_at (suc n) (suc k) x = nothing_at n k x
