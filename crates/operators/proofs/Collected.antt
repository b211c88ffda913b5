-- Lists of results that are made item by item, up to the first fault.
use Rattle.std.proofs.Common.{◌≡◌, List, [], ◌∷◌, ◌++◌, Result, Ok, Err, IfOk, refl, ap, sym, ◌∙◌, append_assoc, subst}
use Rattle.ae_base.specs.Results.{◌>>=◌, Answers, AnswersAs, each}
use Rattle.ae_base.specs.declared.refusals.Refusal.{Refusal}
use Rattle.ae_base.specs.declared.refusals.Refusal.TheVariants.{Fault, OutOfMemory}
use Rattle.std.specs.List.{All, AllZip}
use Rattle.std.proofs.lemmas.List.Elements.{All-head, All-tail, All-cons, All-nil}

-- the items so far, and then those of the rest
abbrev pub collected : {A E : Type 0} → List A → Result (List A) E → Result (List A) E
collected done rest = rest >>= λ items. Ok (done ++ items)

-- one item, and then those of the rest
abbrev pub before : {A E : Type 0} → Result A E → Result (List A) E → Result (List A) E
before one rest = one >>= λ item. rest >>= λ items. Ok (item ∷ items)

pub collected-before : {A E : Type 0} (done : List A) (item : A) (rest : Result (List A) E) → collected done (before (Ok item) rest) ≡ collected (done ++ item ∷ []) rest
collected-before done item (Err fault) = refl
collected-before done item (Ok items) = ap Ok (sym (append_assoc done (item ∷ []) items))

pub collected-start : {A E : Type 0} (rest : Result (List A) E) → collected [] rest ≡ rest
collected-start (Err fault) = refl
collected-start (Ok items) = refl

pub collected_more : {A E : Type 0} (whole : Result (List A) E) (done : List A) (one : Result A E) (rest : Result (List A) E) (item : A)
    → whole ≡ collected done (before one rest) → one ≡ Ok item → whole ≡ collected (done ++ item ∷ []) rest
collected_more whole done one rest item w e = w ∙ ap (λ o. collected done (before o rest)) e ∙ collected-before done item rest

pub collected_fault : {A E : Type 0} (whole : Result (List A) E) (done : List A) (one : Result A E) (rest : Result (List A) E) (fault : E)
    → whole ≡ collected done (before one rest) → one ≡ Err fault → whole ≡ Err fault
collected_fault whole done one rest fault w e = w ∙ ap (λ o. collected done (before o rest)) e

pub fault_handed : {A B C E : Type 0} (v : A → B) (e : Refusal E) (part : Result B E) (whole : Result C E)
    → AnswersAs v (Err e) part → ((f : E) → part ≡ Err f → whole ≡ Err f) → Answers {A = C} (Err e) whole
fault_handed v (Fault f) part whole h pass = pass f h
fault_handed v OutOfMemory part whole h pass = tt

-- what was made of a value that came
pub record Came {A B E : Type 0} (o : Result A E) (f : A → Result B E) (y : B) : Type 0 where
  pub value : A
  pub is : o ≡ Ok value
  pub then : f value ≡ Ok y

pub came : {A B E : Type 0} (o : Result A E) (f : A → Result B E) (y : B) → (o >>= f) ≡ Ok y → Came o f y
came (Ok x) f y e = record { value = x; is = refl; then = e }
came (Err x) f y e = absurd cc

pub record CameBefore {A E : Type 0} (one : Result A E) (rest : Result (List A) E) (items : List A) : Type 0 where
  pub first : A
  pub others : List A
  pub is : one ≡ Ok first
  pub then : rest ≡ Ok others
  pub all : items ≡ first ∷ others

pub came_before : {A E : Type 0} (one : Result A E) (rest : Result (List A) E) (items : List A) → before one rest ≡ Ok items → CameBefore one rest items
came_before (Ok x) (Ok xs) items e = record { first = x; others = xs; is = refl; then = refl; all = cc }
came_before (Ok x) (Err f) items e = absurd cc
came_before (Err f) rest items e = absurd cc

-- ---- what was made of each

pub each_all : {A B E : Type 0} (P : A → Type 0) (Q : B → Type 0) (f : A → Result B E) (xs : List A) (ys : List B)
    → ((x : A) (y : B) → P x → f x ≡ Ok y → Q y) → All P xs → each f xs ≡ Ok ys → All Q ys
each_all P Q f [] ys g h e = let k : [] ≡ ys = cc in subst (All Q) k (All-nil Q)
each_all P Q f (x ∷ xs) ys g h e =
    let b = came_before (f x) (each f xs) ys e in
    subst (All Q) (sym b.all) (All-cons Q b.first b.others (g x b.first (All-head P x xs h) b.is) (each_all P Q f xs b.others g (All-tail P x xs h) b.then))

pub each_made : {A B E : Type 0} (f : A → Result B E) (xs : List A) (ys : List B) → each f xs ≡ Ok ys → AllZip (λ x y. f x ≡ Ok y) xs ys
each_made f [] [] e = tt
each_made f [] (y ∷ ys) e = absurd cc
each_made f (x ∷ xs) ys e =
    let b = came_before (f x) (each f xs) ys e in
    subst (AllZip (λ x y. f x ≡ Ok y) (x ∷ xs)) (sym b.all) (b.is, each_made f xs b.others b.then)

pub made_all : {A B : Type 0} (R : A → B → Type 0) (P : A → Type 0) (Q : B → Type 0) (xs : List A) (ys : List B) → ((x : A) (y : B) → P x → R x y → Q y) → All P xs → AllZip R xs ys → All Q ys
made_all R P Q [] [] g h m = All-nil Q
made_all R P Q [] (y ∷ ys) g h m = absurd m
made_all R P Q (x ∷ xs) [] g h m = absurd m
made_all R P Q (x ∷ xs) (y ∷ ys) g h m = All-cons Q y ys (g x y (All-head P x xs h) m.0) (made_all R P Q xs ys g (All-tail P x xs h) m.1)

pub if_ok : {A E : Type 0} (r : Result A E) (P Q : A → Type 0) → ((x : A) → P x → Q x) → IfOk r P → IfOk r Q
if_ok (Ok x) P Q f h = f x h
if_ok (Err e) P Q f h = tt
