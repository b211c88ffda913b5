-- A stable sort by a total order puts items in order.
use Rattle.std.proofs.Common.{
  ◌≡◌,
  ℕ,
  zero,
  suc,
  ◌<◌,
  ◌≤◌,
  List,
  [],
  ◌∷◌,
  length,
  get_or,
  map,
  refl,
  ap,
  sym,
  ◌∙◌,
  arith,
  Bool,
  true,
  false,
  not,
  cond,
  Ordering,
  Less,
  Equal,
  Greater,
  is_lt,
  is_gt,
  is_eq,
}
use Rattle.std.specs.Prelude.{◌&&◌}
use Rattle.std.specs.Cmp.{IsTotalOrder, IsStrictWeakOrder, upto, alike_right, tied_itself}
use Rattle.std.specs.List.{filter}
use Rattle.std.specs.List.Sorted.{IsSortedBy, IsStableBy, ties}
use Rattle.std.specs.Ordering.{ordering_reverse}
use Rattle.std.proofs.lemmas.List.Sorted.{ranks_by, sorted_far}
use Rattle.operators.specs.Found.{put, sorted_by}

pub sorted_by-map : {A B : Type 0} (cmp : B → B → Ordering) (f : A → B) (xs : List A) → sorted_by cmp (map f xs) ≡ map f (sorted_by (λ a b. cmp (f a) (f b)) xs)
sorted_by-map {A} cmp f [] = refl
sorted_by-map {A} cmp f (x ∷ xs) = ap (put cmp (f x)) (sorted_by-map cmp f xs) ∙ put-map x (sorted_by (λ a b. cmp (f a) (f b)) xs)
  where
    put-map : (x : A) (ys : List A) → put cmp (f x) (map f ys) ≡ map f (put (λ a b. cmp (f a) (f b)) x ys)
    put-map x [] = refl
    put-map x (y ∷ ys) = by_test (is_gt (cmp (f x) (f y))) (put-map x ys)
      where
        by_test : (b : Bool) → put cmp (f x) (map f ys) ≡ map f (put (λ a b. cmp (f a) (f b)) x ys)
            → cond b (f y ∷ put cmp (f x) (map f ys)) (f x ∷ f y ∷ map f ys) ≡ map f (cond b (y ∷ put (λ a b. cmp (f a) (f b)) x ys) (x ∷ y ∷ ys))
        by_test true more = ap (λ l. f y ∷ l) more
        by_test false more = refl

swap_kept : {A : Type 0} (p q : Bool) (x y : A) (xs : List A) → ((p ≡ true) × (q ≡ true) → ⊥)
    → cond q (y ∷ cond p (x ∷ xs) xs) (cond p (x ∷ xs) xs) ≡ cond p (x ∷ cond q (y ∷ xs) xs) (cond q (y ∷ xs) xs)
swap_kept true true x y xs n = absurd (n (refl, refl))
swap_kept true false x y xs n = refl
swap_kept false true x y xs n = refl
swap_kept false false x y xs n = refl

cons_kept : {A : Type 0} (b : Bool) (x : A) (xs ys : List A) → cond b (x ∷ xs) xs ≡ cond b (x ∷ ys) ys → xs ≡ ys
cons_kept true x xs ys e = cc
cons_kept false x xs ys e = e

-- one comes strictly before the other
abbrev pub before : {X : Type 0} → (X → X → Ordering) → X → X → Bool
before R x y = is_lt (R x y)

module _ {X : Type 0} (R : X → X → Ordering) (total : IsTotalOrder R) where
  abbrev tied : X → X → Bool
  tied = ties (λ x y. is_lt (R x y))

  tied_is : (x y : X) → tied x y ≡ is_eq (R x y)
  tied_is x y = ap (λ o. not (is_lt (R x y)) && not (is_lt o)) (total.antisymm y x) ∙ by_order (R x y)
    where
      by_order : (o : Ordering) → (not (is_lt o) && not (is_lt (ordering_reverse o))) ≡ is_eq o
      by_order Less = refl
      by_order Equal = refl
      by_order Greater = refl

  equal_if : (o : Ordering) → is_eq o ≡ true → o ≡ Equal
  equal_if Less e = absurd cc
  equal_if Equal e = refl
  equal_if Greater e = absurd cc

  greater_if : (o : Ordering) → is_gt o ≡ true → o ≡ Greater
  greater_if Less e = absurd cc
  greater_if Equal e = absurd cc
  greater_if Greater e = refl

  abbrev AtMost : X → X → Type 0
  AtMost x y = is_gt (R x y) ≡ false

  below_greater : (x y : X) → is_gt (R x y) ≡ true → AtMost y x
  below_greater x y e = ap is_gt (total.antisymm y x) ∙ ap (λ o. is_gt (ordering_reverse o)) (greater_if (R x y) e)

  at_most : (x y : X) → is_lt (R y x) ≡ false → AtMost x y
  at_most x y e = ap is_gt (total.antisymm x y) ∙ by_order (R y x) e
    where
      by_order : (o : Ordering) → is_lt o ≡ false → is_gt (ordering_reverse o) ≡ false
      by_order Less e = absurd cc
      by_order Equal e = refl
      by_order Greater e = refl

  abbrev AllFrom : X → List X → Type 0
  AllFrom x [] = Unit {0}
  AllFrom x (y ∷ ys) = AtMost x y × AllFrom x ys

  abbrev Rising : List X → Type 0
  Rising [] = Unit {0}
  Rising (x ∷ xs) = AllFrom x xs × Rising xs

  from_less : (x y : X) (zs : List X) → AtMost x y → AllFrom y zs → AllFrom x zs
  from_less x y [] le h = tt
  from_less x y (z ∷ zs) le h = (upto total x y z le h.0, from_less x y zs le h.1)

  -- ---- what is sorted rises, and ties stay

  put_from : (w x : X) (ys : List X) → AtMost w x → AllFrom w ys → AllFrom w (put R x ys)
  put_from w x [] le h = (le, tt)
  put_from w x (y ∷ ys) le h = by_test (is_gt (R x y)) (put_from w x ys le h.1)
    where
      by_test : (b : Bool) → AllFrom w (put R x ys) → AllFrom w (cond b (y ∷ put R x ys) (x ∷ y ∷ ys))
      by_test true more = (h.0, more)
      by_test false more = (le, h)

  put_rises : (x : X) (ys : List X) → Rising ys → Rising (put R x ys)
  put_rises x [] h = (tt, tt)
  put_rises x (y ∷ ys) h = by_test (is_gt (R x y)) refl (put_rises x ys h.1)
    where
      by_test : (b : Bool) → is_gt (R x y) ≡ b → Rising (put R x ys) → Rising (cond b (y ∷ put R x ys) (x ∷ y ∷ ys))
      by_test true e more = (put_from y x ys (below_greater x y e) h.0, more)
      by_test false e more = ((e, from_less x y ys e h.0), h)

  sorted_rises : (xs : List X) → Rising (sorted_by R xs)
  sorted_rises [] = tt
  sorted_rises (x ∷ xs) = put_rises x (sorted_by R xs) (sorted_rises xs)

  put_keeps : (z x : X) (ys : List X) → filter (tied z) (put R x ys) ≡ filter (tied z) (x ∷ ys)
  put_keeps z x [] = refl
  put_keeps z x (y ∷ ys) = by_test (is_gt (R x y)) refl (put_keeps z x ys)
    where
      apart : is_gt (R x y) ≡ true → (tied z x ≡ true) × (tied z y ≡ true) → ⊥
      apart e h =
          let p : R z x ≡ Equal = equal_if (R z x) (sym (tied_is z x) ∙ h.0) in
          let q : R z y ≡ Equal = equal_if (R z y) (sym (tied_is z y) ∙ h.1) in
          let f : is_gt Equal ≡ true = ap is_gt (sym q ∙ total.congr z x y p) ∙ e in
          cc

      by_test : (b : Bool) → is_gt (R x y) ≡ b → filter (tied z) (put R x ys) ≡ filter (tied z) (x ∷ ys) → filter (tied z) (cond b (y ∷ put R x ys) (x ∷ y ∷ ys)) ≡ filter (tied z) (x ∷ y ∷ ys)
      by_test true e more = ap (λ l. cond (tied z y) (y ∷ l) l) more ∙ swap_kept (tied z x) (tied z y) x y (filter (tied z) ys) (apart e)
      by_test false e more = refl

  sorted_keeps : (z : X) (xs : List X) → filter (tied z) (sorted_by R xs) ≡ filter (tied z) xs
  sorted_keeps z [] = refl
  sorted_keeps z (x ∷ xs) = put_keeps z x (sorted_by R xs) ∙ ap (λ l. cond (tied z x) (x ∷ l) l) (sorted_keeps z xs)

  -- ---- rising lists with the same ties are one

  below_from : (z x y : X) → R z x ≡ Less → AtMost x y → tied z y ≡ false
  below_from z x y lt le = tied_is z y ∙ by_order (R x y) refl le
    where
      by_order : (o : Ordering) → R x y ≡ o → is_gt o ≡ false → is_eq (R z y) ≡ false
      by_order Less e le = ap is_eq (total.trans z x y lt e)
      by_order Equal e le = ap is_eq (sym (alike_right total x y z e) ∙ lt)
      by_order Greater e le = absurd cc

  none_above : (z x : X) (ys : List X) → R z x ≡ Less → AllFrom x ys → filter (tied z) ys ≡ []
  none_above z x [] lt h = refl
  none_above z x (y ∷ ys) lt h = ap (λ b. cond b (y ∷ filter (tied z) ys) (filter (tied z) ys)) (below_from z x y lt h.0) ∙ none_above z x ys lt h.1

  first_tied : (x y : X) (ys : List X) → R x y ≡ Equal → filter (tied x) (y ∷ ys) ≡ y ∷ filter (tied x) ys
  first_tied x y ys e = ap (λ b. cond b (y ∷ filter (tied x) ys) (filter (tied x) ys)) (tied_is x y ∙ ap is_eq e)

  not_below : (y z : X) (ys zs : List X) → AllFrom y ys → filter (tied z) (y ∷ ys) ≡ filter (tied z) (z ∷ zs) → R z y ≡ Less → ⊥
  not_below y z ys zs h e lt =
      let le : AtMost y y = ap is_gt (tied_itself total y) in
      let f : filter (tied z) (y ∷ ys) ≡ [] = none_above z y (y ∷ ys) lt (le, h) in
      let g : z ∷ filter (tied z) zs ≡ [] = sym (first_tied z z zs (tied_itself total z)) ∙ sym e ∙ f in
      cc

  one_list : (ys zs : List X) → Rising ys → Rising zs → ((x : X) → filter (tied x) ys ≡ filter (tied x) zs) → ys ≡ zs
  one_list [] [] h k e = refl
  one_list [] (z ∷ zs) h k e = let f : [] ≡ z ∷ filter (tied z) zs = e z ∙ first_tied z z zs (tied_itself total z) in absurd cc
  one_list (y ∷ ys) [] h k e = let f : y ∷ filter (tied y) ys ≡ [] = sym (first_tied y y ys (tied_itself total y)) ∙ e y in absurd cc
  one_list (y ∷ ys) (z ∷ zs) h k e = by_order (R y z) refl (λ f. one_list ys zs h.1 k.1 f)
    where
      by_order : (o : Ordering) → R y z ≡ o → (((x : X) → filter (tied x) ys ≡ filter (tied x) zs) → ys ≡ zs) → y ∷ ys ≡ z ∷ zs
      by_order Less p rest = absurd (not_below z y zs ys k.0 (sym (e y)) p)
      by_order Greater p rest = absurd (not_below y z ys zs h.0 (e z) (total.antisymm z y ∙ ap ordering_reverse p))
      by_order Equal p rest =
          let one : y ∷ filter (tied y) ys ≡ z ∷ filter (tied y) zs = sym (first_tied y y ys (tied_itself total y)) ∙ e y ∙ first_tied y z zs p in
          let head : y ≡ z = cc in
          let tail : ys ≡ zs = rest (λ x. cons_kept (tied x y) y (filter (tied x) ys) (filter (tied x) zs) (e x ∙ ap (λ w. filter (tied x) (w ∷ zs)) (sym head))) in
          ap (λ w. w ∷ ys) head ∙ ap (λ w. z ∷ w) tail

  -- ---- what a sort says

  pub is_order : IsStrictWeakOrder (before R)
  is_order = ranks_by total (λ x. x)

  from_each : (x d : X) (ys : List X) → ((k : ℕ) → k < length ys → before R (get_or ys k d) x ≡ false) → AllFrom x ys
  from_each x d [] h = tt
  from_each x d (y ∷ ys) h = (at_most x y (h zero (omega arith)), from_each x d ys (λ k lt. h (suc k) (omega arith)))

  rises : (xs : List X) → ((i j : ℕ) (d : X) → i ≤ j → j < length xs → before R (get_or xs j d) (get_or xs i d) ≡ false) → Rising xs
  rises [] h = tt
  rises (x ∷ xs) h = (from_each x x xs (λ k lt. h zero (suc k) x (omega arith) (omega arith)), rises xs (λ i j d le lt. h (suc i) (suc j) d (omega arith) (omega arith)))

  pub stable_sort : (xs ys : List X) → IsSortedBy (before R) ys → IsStableBy (before R) xs ys → ys ≡ sorted_by R xs
  stable_sort xs ys h s = one_list ys (sorted_by R xs) (rises ys (sorted_far (before R) is_order ys h)) (sorted_rises xs) (λ x. s x ∙ sym (sorted_keeps x xs))
