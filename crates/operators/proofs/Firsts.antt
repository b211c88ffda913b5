-- The first of rows that are alike.
use Rattle.std.proofs.Common.{◌≡◌, ℕ, suc, ◌+◌, ◌<◌, List, [], ◌∷◌, ◌++◌, length, length-append, get_or, drop, map, append_assoc, refl, ap, sym, ◌∙◌, arith, Bool, true, false, not, cond}
use Rattle.std.specs.Prelude.{if◌then◌else◌}
use Rattle.std.specs.List.{list_any}
use Rattle.std.proofs.lemmas.List.{append-nil, drop_more, length-map}
use Rattle.ae_base.specs.Atoms.{Atom}
use Rattle.sql_tree.specs.declared.bound.BoundOrderKey.{BoundOrderKey}
use Rattle.operators.specs.Alike.{are_alike}
use Rattle.operators.specs.Found.{Found, found_by, first_seen, are_first}
use Rattle.operators.specs.declared.found.Found as code
use Rattle.operators.proofs.Grouping.{any-map, any_same, alike_back, map-push, any_items}

abbrev pub shown_of : {K : Type 0} → code.Found K → List Atom
shown_of found = found.shown

-- those for which the answer is true
abbrev pub picked : {A : Type 0} → List Bool → List A → List A
picked [] xs = []
picked (b ∷ bs) [] = []
picked (b ∷ bs) (x ∷ xs) = if b then x ∷ picked bs xs else picked bs xs

pub picked-nil : {A : Type 0} (bs : List Bool) → picked {A = A} bs [] ≡ []
picked-nil [] = refl
picked-nil (b ∷ bs) = refl

cons-if : {A : Type 0} (b : Bool) (x : A) (xs ys : List A) → x ∷ (if b then xs else ys) ≡ (if b then x ∷ xs else x ∷ ys)
cons-if true x xs ys = refl
cons-if false x xs ys = refl

pub first_seen-picked : (seen fs : List Found) → first_seen seen fs ≡ picked (are_first (map (λ (f : Found). f.shown) seen) (map (λ (f : Found). f.shown) fs)) fs
first_seen-picked seen [] = refl
first_seen-picked seen (f ∷ fs) =
    by_test (list_any (λ (e : Found). are_alike e.shown f.shown) seen)
    (list_any (λ earlier. are_alike earlier f.shown) (map (λ (f : Found). f.shown) seen)) (sym (any-map (λ earlier. are_alike earlier f.shown) (λ (f : Found). f.shown) seen))
    (first_seen-picked seen fs)
    (ap (λ s. picked (are_first s (map (λ (f : Found). f.shown) fs)) fs) (map-push (λ (f : Found). f.shown) seen f)) (first_seen-picked (seen ++ f ∷ []) fs)
  where
    by_test : (b c : Bool) → b ≡ c → first_seen seen fs ≡ picked (are_first (map (λ (f : Found). f.shown) seen) (map (λ (f : Found). f.shown) fs)) fs
        → picked (are_first (map (λ (f : Found). f.shown) (seen ++ f ∷ [])) (map (λ (f : Found). f.shown) fs))
        fs ≡ picked (are_first (map (λ (f : Found). f.shown) seen ++ f.shown ∷ []) (map (λ (f : Found). f.shown) fs)) fs
        → first_seen (seen ++ f ∷ []) fs ≡ picked (are_first (map (λ (f : Found). f.shown) (seen ++ f ∷ [])) (map (λ (f : Found). f.shown) fs)) fs
        → cond b (first_seen seen fs) (f ∷ first_seen (seen ++ f ∷ []) fs)
        ≡ picked (if c then false ∷ are_first (map (λ (f : Found). f.shown) seen) (map (λ (f : Found). f.shown) fs)
        else true ∷ are_first (map (λ (f : Found). f.shown) seen ++ f.shown ∷ []) (map (λ (f : Found). f.shown) fs)) (f ∷ fs)
    by_test true true e old same new = old
    by_test true false e old same new = absurd cc
    by_test false true e old same new = absurd cc
    by_test false false e old same new = ap (λ l. f ∷ l) (new ∙ same)

-- ---- the answers so far

-- one more row: whether it is the first, and the keys that were seen
module _ {V X : Type 0} (items : V → List Atom) (shown : X → List Atom) (xs : List X) (i : ℕ) (x : X) (seen : List V) (key : V) (done whole : List Bool) where
  pub firsts_more : i < length xs → x ≡ get_or xs i x → items key ≡ shown x → whole ≡ done ++ are_first (map items seen) (map shown (drop i xs))
      → whole ≡ (done ++ not (list_any (λ k. are_alike (items key) (items k)) seen) ∷ []) ++ are_first
      (map items (if list_any (λ k. are_alike (items key) (items k)) seen then seen else seen ++ key ∷ [])) (map shown (drop (i + 1) xs))
  firsts_more lt e own w =
      let rest = map shown (drop (i + 1) xs) in
      let ks = map items seen in
      let d : drop i xs ≡ x ∷ drop (i + 1) xs = drop_more xs i x lt ∙ ap (λ y. y ∷ drop (i + 1) xs) (sym e) in
      let t : list_any (λ earlier. are_alike earlier (shown x)) ks ≡ list_any (λ k. are_alike (items key) (items k)) seen =
      any_same (λ earlier. are_alike earlier (shown x)) (are_alike (items key)) ks
      (λ earlier. alike_back earlier (shown x) ∙ ap (λ k. are_alike k earlier) (sym own)) ∙ sym (any_items items key seen) in
      w ∙ ap (λ ys. done ++ are_first ks (map shown ys)) d
      ∙ ap (λ b. done ++ (if b then false ∷ are_first ks rest else true ∷ are_first (ks ++ shown x ∷ []) rest)) t
      ∙ by_test own (list_any (λ k. are_alike (items key) (items k)) seen)
    where
      by_test : items key ≡ shown x → (b : Bool)
          → done ++ (if b then false ∷ are_first (map items seen) (map shown (drop (i + 1) xs)) else true ∷ are_first (map items seen ++ shown x ∷ []) (map shown (drop (i + 1) xs)))
          ≡ (done ++ not b ∷ []) ++ are_first (map items (if b then seen else seen ++ key ∷ [])) (map shown (drop (i + 1) xs))
      by_test own true = sym (append_assoc done (false ∷ []) (are_first (map items seen) (map shown (drop (i + 1) xs))))
      by_test own false =
          ap (λ k. done ++ true ∷ are_first (map items seen ++ k ∷ []) (map shown (drop (i + 1) xs))) (sym own)
          ∙ ap (λ ks. done ++ true ∷ are_first ks (map shown (drop (i + 1) xs))) (sym (map-push items seen key))
          ∙ sym (append_assoc done (true ∷ []) (are_first (map items (seen ++ key ∷ [])) (map shown (drop (i + 1) xs))))

-- ---- those that are kept

picked-push : {A : Type 0} (bs : List Bool) (xs : List A) (x : A) (d : Bool) → length xs < length bs
    → picked bs (xs ++ x ∷ []) ≡ (if get_or bs (length xs) d then picked bs xs ++ x ∷ [] else picked bs xs)
picked-push [] xs x d lt = absurd (omega arith)
picked-push (true ∷ bs) [] x d lt = ap (λ l. x ∷ l) (picked-nil bs)
picked-push (false ∷ bs) [] x d lt = picked-nil bs
picked-push (true ∷ bs) (y ∷ xs) x d lt = ap (λ l. y ∷ l) (picked-push bs xs x d (omega arith)) ∙ cons-if (get_or bs (length xs) d) y (picked bs xs ++ x ∷ []) (picked bs xs)
picked-push (false ∷ bs) (y ∷ xs) x d lt = picked-push bs xs x d (omega arith)

length-firsts : (seen rows : List (List Atom)) → length (are_first seen rows) ≡ length rows
length-firsts seen [] = refl
length-firsts seen (row ∷ rows) = by_test (list_any (λ earlier. are_alike earlier row) seen) (length-firsts seen rows) (length-firsts (seen ++ row ∷ []) rows)
  where
    by_test : (b : Bool) → length (are_first seen rows) ≡ length rows → length (are_first (seen ++ row ∷ []) rows) ≡ length rows
        → length (if b then false ∷ are_first seen rows else true ∷ are_first (seen ++ row ∷ []) rows) ≡ suc (length rows)
    by_test true old new = ap suc old
    by_test false old new = ap suc new

-- what was kept of those so far
pub record AreKept {K : Type 0} (found past left kept : List (code.Found K)) (firsts : List Bool) (n i : ℕ) : Type 0 where
  pub all : past ++ left ≡ found
  pub count : n ≡ length left
  pub at : i ≡ length past
  pub made : (keys : List BoundOrderKey) → map (found_by keys) kept ≡ picked firsts (map (found_by keys) past)

pub kept_within : {K : Type 0} (found past left kept : List (code.Found K)) (firsts : List Bool) (count i : ℕ) (x : code.Found K) (rest : List (code.Found K))
    → AreKept found past left kept firsts count i → firsts ≡ are_first [] (map shown_of found) → left ≡ x ∷ rest
    → i < length firsts
kept_within found past left kept firsts count i x rest s f e =
    let n : length found ≡ length past + length left = ap length (sym s.all) ∙ length-append past left in
    let m : length left ≡ suc (length rest) = ap length e in
    let k : length firsts ≡ length found = ap length f ∙ length-firsts [] (map shown_of found) ∙ length-map found shown_of in
    omega (arith, n, m, k, s.at)

pub kept_more : {K : Type 0} (found past left kept : List (code.Found K)) (firsts : List Bool) (count i : ℕ)
    (x : code.Found K) (rest new : List (code.Found K)) (less : ℕ) (d : Bool) → AreKept found past left kept firsts count i → left ≡ x ∷ rest → less ≡ length rest
    → i < length firsts → new ≡ (if get_or firsts i d then kept ++ x ∷ [] else kept) → AreKept found (past ++ x ∷ []) rest new firsts less (i + 1)
kept_more {K} found past left kept firsts count i x rest new less d s e n lt h = record {
  all = append_assoc past (x ∷ []) rest ∙ ap (λ l. past ++ l) (sym e) ∙ s.all;
  count = n;
  at = omega (arith, s.at, length-append past (x ∷ []));
  made = λ keys. now_made keys;
}
  where
    by_test : (b : Bool) (keys : List BoundOrderKey) → map (found_by {K = K} keys) kept ≡ picked firsts (map (found_by keys) past)
        → map (found_by {K = K} keys) (if b then kept ++ x ∷ [] else kept) ≡ (if b then picked firsts (map (found_by keys) past) ++ found_by keys x ∷ [] else picked firsts (map (found_by keys) past))
    by_test true keys p = map-push (found_by keys) kept x ∙ ap (λ l. l ++ found_by keys x ∷ []) p
    by_test false keys p = p

    now_made : (keys : List BoundOrderKey) → map (found_by {K = K} keys) new ≡ picked firsts (map (found_by keys) (past ++ x ∷ []))
    now_made keys =
        let m : i ≡ length (map (found_by {K = K} keys) past) = s.at ∙ sym (length-map past (found_by keys)) in
        let within : length (map (found_by {K = K} keys) past) < length firsts = omega (arith, m, lt) in
        ap (map (found_by {K = K} keys)) h ∙ by_test (get_or firsts i d) keys (s.made keys)
        ∙ ap (λ k. if get_or firsts k d then picked firsts (map (found_by keys) past) ++ found_by keys x ∷ [] else picked firsts (map (found_by keys) past)) m
        ∙ sym (picked-push firsts (map (found_by keys) past) (found_by keys x) d within) ∙ ap (picked firsts) (sym (map-push (found_by keys) past x))

pub kept_all : {K : Type 0} (found past left kept : List (code.Found K)) (firsts : List Bool) (count i : ℕ)
    → AreKept found past left kept firsts count i → firsts ≡ are_first [] (map shown_of found) → count ≡ 0
    → (keys : List BoundOrderKey) → map (found_by keys) kept ≡ first_seen [] (map (found_by keys) found)
kept_all {K} found past [] kept firsts count i s f n keys =
    let whole : past ≡ found = sym (append-nil past) ∙ s.all in
    s.made keys ∙ ap (λ l. picked firsts (map (found_by keys) l)) whole ∙ ap (λ bs. picked bs (map (found_by keys) found)) (f ∙ ap (are_first []) (shown_so found))
    ∙ sym (first_seen-picked [] (map (found_by keys) found))
  where
    shown_so : (xs : List (code.Found K)) → map shown_of xs ≡ map (λ (f : Found). f.shown) (map (found_by keys) xs)
    shown_so [] = refl
    shown_so (x ∷ xs) = ap (λ l. x.shown ∷ l) (shown_so xs)
kept_all found past (x ∷ left) kept firsts count i s f n keys = let m = s.count in absurd (omega arith)
