-- Slots of which the last ones are empty where fewer are held.
use Rattle.std.proofs.Common.{◌≡◌, ◌<◌, ◌≤◌, ℕ, zero, suc, ◌+◌, ◌-◌, List, [], ◌∷◌, ◌++◌, length, get_or, set, replicate, refl, ap, sym, ◌∙◌, arith, append_assoc, length-append, Option, None}
use Rattle.std.proofs.Math.ListN.{length-set}
use Rattle.std.proofs.lemmas.List.{get_or-replicate, replicate-append-replicate}
use Rattle.transactions.specs.Slots.{slots_of}
use Rattle.transactions.proofs.Seen.{set_back}

pub padded_more : {A : Type 0} (held : List (Option A)) → length held < 64 → slots_of (held ++ None ∷ []) ≡ slots_of held
padded_more held lt =
    let a = length-append held (None ∷ []) in
    let m : 64 - length held ≡ suc (64 - length (held ++ None ∷ [])) = omega arith in
    append_assoc held (None ∷ []) (replicate (64 - length (held ++ None ∷ [])) None) ∙ ap (λ n. held ++ replicate n None) (sym m)

set_left : {A : Type 0} (xs ys : List A) (k : ℕ) (y : A) → k < length xs → set (xs ++ ys) k y ≡ set xs k y ++ ys
set_left [] ys k y lt = absurd (omega arith)
set_left (x ∷ xs) ys zero y lt = refl
set_left (x ∷ xs) ys (suc k) y lt = ap (λ zs. x ∷ zs) (set_left xs ys k y (omega arith))

pub padded_set : {A : Type 0} (held : List (Option A)) (k : ℕ) (y : Option A) → k < length held → slots_of (set held k y) ≡ set (slots_of held) k y
padded_set held k y lt = ap (λ n. set held k y ++ replicate (64 - n) None) (length-set held k y) ∙ sym (set_left held (replicate (64 - length held) None) k y lt)

at_left : {A : Type 0} (xs ys : List A) (k : ℕ) (d e : A) → k < length xs → get_or (xs ++ ys) k d ≡ get_or xs k e
at_left [] ys k d e lt = absurd (omega arith)
at_left (x ∷ xs) ys zero d e lt = refl
at_left (x ∷ xs) ys (suc k) d e lt = at_left xs ys k d e (omega arith)

pub padded_at : {A : Type 0} (held : List (Option A)) (k : ℕ) (e : Option A) → k < length held → get_or (slots_of held) k None ≡ get_or held k e
padded_at held k e lt = at_left held (replicate (64 - length held) None) k None e lt

at_empty : {A : Type 0} (n k : ℕ) → get_or {A = Option A} (replicate n None) k None ≡ None
at_empty zero k = refl
at_empty (suc n) zero = refl
at_empty {A} (suc n) (suc k) = at_empty {A = A} n k

at_right : {A : Type 0} (xs : List (Option A)) (n k : ℕ) → length xs ≤ k → get_or (xs ++ replicate n None) k None ≡ None
at_right {A} [] n k le = at_empty {A = A} n k
at_right (x ∷ xs) n zero le = absurd (omega arith)
at_right (x ∷ xs) n (suc k) le = at_right xs n k (omega arith)

pub padded_past : {A : Type 0} (held : List (Option A)) (k : ℕ) → length held ≤ k → get_or (slots_of held) k None ≡ None
padded_past held k le = at_right held (64 - length held) k le

-- an empty slot is emptied
pub emptied_past : {A : Type 0} (held : List (Option A)) (k : ℕ) → length held ≤ k → slots_of held ≡ set (slots_of held) k None
emptied_past held k le = set_back (slots_of held) k None ∙ ap (set (slots_of held) k) (padded_past held k le)

pub set_twice : {A : Type 0} (xs : List A) (k : ℕ) (x y : A) → set (set xs k x) k y ≡ set xs k y
set_twice [] k x y = refl
set_twice (z ∷ xs) zero x y = refl
set_twice (z ∷ xs) (suc k) x y = ap (λ ys. z ∷ ys) (set_twice xs k x y)

-- all slots are empty exactly where those that are held are
pub all_empty : {A : Type 0} (held : List (Option A)) → length held ≤ 64 → held ≡ replicate (length held) None → slots_of held ≡ replicate 64 None
all_empty {A} held few e =
    let n : length held + (64 - length held) ≡ 64 = omega (arith, few) in
    ap (λ (xs : List (Option A)). xs ++ replicate (64 - length held) None) e
    ∙ replicate-append-replicate (length held) (64 - length held) None
    ∙ ap (λ (n : ℕ). replicate n None) n

pub one_empty : {A : Type 0} (held : List (Option A)) (k : ℕ) (e : Option A) → length held ≤ 64 → k < length held → slots_of held ≡ replicate 64 None → get_or held k e ≡ None
one_empty {A} held k e few lt idle =
    sym (padded_at held k e lt) ∙ ap (λ (xs : List (Option A)). get_or xs k None) idle ∙ get_or-replicate 64 k None None (omega (arith, few, lt))
