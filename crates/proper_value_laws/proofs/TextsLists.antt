-- Lists, and results one after another, of which something holds of each.
use Rattle.std.proofs.Common.{◌≡◌, ℕ, ◌+◌, Bool, true, false, cond, List, [], ◌∷◌, Some, Result, Ok, Err, refl, subst}
use Rattle.std.specs.List.{All, find, flat_map}
use Rattle.std.proofs.lemmas.List.Elements.{All-nil, All-cons, All-head, All-tail, All-append}
use Rattle.ae_base.specs.Results.{each}
use Rattle.ae_base.specs.declared.faults.SqlFault.{SqlFault}
use Rattle.expression_binding.specs.Walks.{each_from}
use Rattle.expression_binding.proofs.Interface.{two_parts}

-- ---- lists

pub find_all : {A : Type 0} (P : A → Type 0) (test : A → Bool) (xs : List A) (x : A) → All P xs → find test xs ≡ Some x → P x
find_all P test [] x h e = cc
find_all P test (y ∷ ys) x h e = go (test y) e (find_all P test ys x (All-tail P y ys h))
  where
    go : (t : Bool) → cond t (Some y) (find test ys) ≡ Some x → (find test ys ≡ Some x → P x) → P x
    go true e more = let i : y ≡ x = cc in subst P i (All-head P y ys h)
    go false e more = more e

pub flat_all : {A B : Type 0} (P : A → Type 0) (Q : B → Type 0) (f : A → List B) → ((x : A) → P x → All Q (f x)) → (xs : List A) → All P xs → All Q (flat_map f xs)
flat_all P Q f h [] all = All-nil Q
flat_all P Q f h (x ∷ xs) all = All-append Q (f x) (flat_map f xs) (h x (All-head P x xs all)) (flat_all P Q f h xs (All-tail P x xs all))

-- ---- results

pub each_all : {A B : Type 0} (P : A → Type 0) (Q : B → Type 0) (g : A → Result B SqlFault) → ((x : A) (y : B) → P x → g x ≡ Ok y → Q y) → (xs : List A) (ys : List B)
    → All P xs → each g xs ≡ Ok ys → All Q ys
each_all P Q g one [] ys h e = let i : [] ≡ ys = cc in subst (All Q) i (All-nil Q)
each_all P Q g one (x ∷ xs) ys h e =
    two_parts (g x) (each g xs) ◌∷◌ ys (All Q) e (λ y zs ey ez. All-cons Q y zs (one x y (All-head P x xs h) ey) (each_all P Q g one xs zs (All-tail P x xs h) ez))

pub each_from_all : {A B : Type 0} (P : A → Type 0) (Q : B → Type 0) (g : ℕ → A → Result B SqlFault) → ((i : ℕ) (x : A) (y : B) → P x → g i x ≡ Ok y → Q y) → (xs : List A) (i : ℕ) (ys : List B)
    → All P xs → each_from g i xs ≡ Ok ys → All Q ys
each_from_all P Q g one [] i ys h e = let j : [] ≡ ys = cc in subst (All Q) j (All-nil Q)
each_from_all P Q g one (x ∷ xs) i ys h e =
    two_parts (g i x) (each_from g (i + 1) xs) ◌∷◌ ys (All Q) e
    (λ y zs ey ez. All-cons Q y zs (one i x y (All-head P x xs h) ey) (each_from_all P Q g one xs (i + 1) zs (All-tail P x xs h) ez))

-- a value of two ways, of which one is a fault
pub ok_other : {A E : Type 0} (t : Bool) (fault : E) (r : Result A E) (x : A) → cond t (Err fault) r ≡ Ok x → (t ≡ false) × (r ≡ Ok x)
ok_other true fault r x e = cc
ok_other false fault r x e = (refl, e)
