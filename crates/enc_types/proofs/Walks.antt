-- Rules that are put at the end, one part after another.
use Rattle.std.proofs.Common.{◌≡◌, ℕ, ◌+◌, ◌<◌, List, [], ◌∷◌, ◌++◌, length, get_or, drop, map, refl, ap, sym, subst, ◌∙◌, Result, OnOk, append_assoc, ◌≤◌}
use Rattle.std.specs.List.{flat_map}
use Rattle.std.specs.declared.alloc.AllocError.{AllocError}
use Rattle.std.proofs.lemmas.List.{at_drop_more, at_drop_all, append-nil}

-- what is there, with the rules of the parts that are left, is the whole
pub walk_more : {A R : Type 0} (F : List A → List R) (G : A → List R) → ((x : A) (xs : List A) → F (x ∷ xs) ≡ G x ++ F xs)
    → (whole now next : List R) (items : List A) (i : ℕ) (x : A) → i < length items → x ≡ get_or items i x
    → now ++ F (drop i items) ≡ whole → next ≡ now ++ G x → next ++ F (drop (i + 1) items) ≡ whole
walk_more F G step whole now next items i x lt e w n =
    ap (λ z. z ++ F (drop (i + 1) items)) n
    ∙ append_assoc now (G x) (F (drop (i + 1) items))
    ∙ ap (λ z. now ++ z) (sym (at_drop_more F items i x lt ∙ ap (λ z. F (z ∷ drop (i + 1) items)) (sym e) ∙ step x (drop (i + 1) items)))
    ∙ w

pub walk_all : {A R : Type 0} (F : List A → List R) → F [] ≡ [] → (whole now : List R) (items : List A) (i : ℕ) → length items ≤ i
    → now ++ F (drop i items) ≡ whole → now ≡ whole
walk_all F none whole now items i le w = sym (append-nil now) ∙ ap (λ z. now ++ z) (sym (at_drop_all F items i le ∙ none)) ∙ w

-- parts one after another, of which the last may want memory
pub two : {R : Type 0} (old there new a b c d : List R) (result : Result (Unit {0}) AllocError) → there ≡ old ++ a → OnOk result (new ≡ there ++ b)
    → a ≡ c → b ≡ d → OnOk result (new ≡ old ++ (c ++ d))
two old there new a b c d result e h f g =
    subst (λ z. OnOk result (new ≡ z)) (ap (λ z. z ++ b) e ∙ append_assoc old a b ∙ ap (λ z. old ++ (z ++ b)) f ∙ ap (λ z. old ++ (c ++ z)) g) h

pub joined : {R : Type 0} (old there new a b : List R) → there ≡ old ++ a → new ≡ there ++ b → new ≡ old ++ (a ++ b)
joined old there new a b e h = h ∙ ap (λ z. z ++ b) e ∙ append_assoc old a b

pub both_same : {R : Type 0} (a b c d : List R) → a ≡ c → b ≡ d → a ++ b ≡ c ++ d
both_same a b c d e f = ap (λ z. z ++ b) e ∙ ap (λ z. c ++ z) f

pub flat_map-map : {A B R : Type 0} (f : A → B) (g : B → List R) (xs : List A) → flat_map (λ x. g (f x)) xs ≡ flat_map g (map f xs)
flat_map-map f g [] = refl
flat_map-map f g (x ∷ xs) = ap (λ z. g (f x) ++ z) (flat_map-map f g xs)

pub same_items : {A : Type 0} (xs ys : List A) (i : ℕ) (x : A) → xs ≡ ys → i < length xs → x ≡ get_or xs i x → (i < length ys) × (x ≡ get_or ys i x)
same_items xs ys i x e lt is = let P : List _ → Type 0 = λ zs. (i < length zs) × (x ≡ get_or zs i x) in subst P e (lt, is)
