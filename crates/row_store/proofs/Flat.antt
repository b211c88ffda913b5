-- Lists that lie in pages, taken page by page.
use Rattle.std.proofs.Common.{◌≡◌, ℕ, zero, suc, ◌+◌, ◌<◌, List, [], ◌∷◌, ◌++◌, length, get_or, take, drop, refl, ap, sym, subst, ◌∙◌, arith}
use Rattle.std.specs.List.{All, flat_map}
use Rattle.std.proofs.lemmas.Grind.{flat_map-append}
use Rattle.std.proofs.lemmas.List.{append-nil, drop_more, map-append, take_more}
use Rattle.std.proofs.lemmas.List.Elements.{All-head, All-tail, All-cons, All-nil}
use Rattle.row_store.specs.Paged.{Owned, flat, joined, values}

pub flat_map-flat : {A B : Type 0} (f : A → List B) (pages : List (Owned (List A))) → flat_map f (flat pages) ≡ flat_map (λ page. flat_map f page.value) pages
flat_map-flat f [] = refl
flat_map-flat f (page ∷ pages) = flat_map-append f page.value (flat pages) ∙ ap (λ ys. flat_map f page.value ++ ys) (flat_map-flat f pages)

pub flat-append : {A : Type 0} (pages more : List (Owned (List A))) → flat (pages ++ more) ≡ flat pages ++ flat more
flat-append pages more = ap joined (map-append (λ page. page.value) pages more) ∙ flat_map-append (λ page. page) (values pages) (values more)

-- the pages so far, and one more
pub flat_taken : {A : Type 0} (pages : List (Owned (List A))) (i : ℕ) (page : Owned (List A)) → i < length pages
    → page ≡ get_or pages i page → flat (take (i + 1) pages) ≡ flat (take i pages) ++ page.value
flat_taken pages i page lt e =
    ap flat (take_more pages i page lt ∙ ap (λ p. take i pages ++ p ∷ []) (sym e)) ∙ flat-append (take i pages) (page ∷ []) ∙ ap (λ xs. flat (take i pages) ++ xs) (append-nil page.value)

-- the pages that are left
pub flat_left : {A : Type 0} (pages : List (Owned (List A))) (i : ℕ) (page : Owned (List A)) → i < length pages
    → page ≡ get_or pages i page → flat (drop i pages) ≡ page.value ++ flat (drop (i + 1) pages)
flat_left pages i page lt e = ap flat (drop_more pages i page lt ∙ ap (λ p. p ∷ drop (i + 1) pages) (sym e))

all_left : {A : Type 0} (P : A → Type 0) (xs ys : List A) → All P (xs ++ ys) → All P xs
all_left P [] ys h = All-nil P
all_left P (x ∷ xs) ys h = All-cons P x xs (All-head P x (xs ++ ys) h) (all_left P xs ys (All-tail P x (xs ++ ys) h))

all_right : {A : Type 0} (P : A → Type 0) (xs ys : List A) → All P (xs ++ ys) → All P ys
all_right P [] ys h = h
all_right P (x ∷ xs) ys h = all_right P xs ys (All-tail P x (xs ++ ys) h)

-- what holds of each row holds of those of a page
pub All_page : {A : Type 0} (P : A → Type 0) (pages : List (Owned (List A))) (i : ℕ) (page : Owned (List A)) → All P (flat pages) → i < length pages → page ≡ get_or pages i page → All P page.value
All_page P [] i page h lt e = absurd (omega arith)
All_page P (p ∷ pages) zero page h lt e = subst (λ (q : Owned (List _)). All P q.value) (sym e) (all_left P p.value (flat pages) h)
All_page P (p ∷ pages) (suc i) page h lt e = All_page P pages i page (all_right P p.value (flat pages) h) (omega arith) e
