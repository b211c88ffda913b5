-- A stable sort by the places of rules puts them in order.
use Rattle.std.proofs.Common.{◌≡◌, ℕ, zero, suc, ◌<◌, ◌≤◌, List, [], ◌∷◌, length, get_or, refl, ap, sym, ◌∙◌, arith, Bool, true, false, cond, nat_le}
use Rattle.std.specs.List.{filter}
use Rattle.std.specs.List.Sorted.{IsNonDecreasingBy, IsStableByKey, ties}
use Rattle.std.specs.Ordering.{is_lt, nat_cmp}
use Rattle.std.proofs.lemmas.Bool.Decides.{nat_tests}
use Rattle.enc_types.specs.Rules.{at_of, placed, in_order}
use Rattle.enc_types.specs.declared.rules.Rule.{Rule}

-- both stand at one place
abbrev tied : Rule → Rule → Bool
tied = ties (λ x y. is_lt (nat_cmp (at_of x) (at_of y)))

tied_at : (x y : Rule) → tied x y ≡ true → at_of x ≡ at_of y
tied_at x y e = grind (arith, nat_tests)

at_tied : (x y : Rule) → at_of x ≡ at_of y → tied x y ≡ true
at_tied x y e = grind (arith, nat_tests)

above_untied : (x y : Rule) → at_of x < at_of y → tied x y ≡ false
above_untied x y e = grind (arith, nat_tests)

abbrev AllFrom : ℕ → List Rule → Type 0
AllFrom n [] = Unit {0}
AllFrom n (x ∷ xs) = (n ≤ at_of x) × AllFrom n xs

abbrev Rising : List Rule → Type 0
Rising [] = Unit {0}
Rising (x ∷ xs) = AllFrom (at_of x) xs × Rising xs

from_less : (m n : ℕ) (xs : List Rule) → m ≤ n → AllFrom n xs → AllFrom m xs
from_less m n [] le h = tt
from_less m n (x ∷ xs) le h = (omega (arith, h.0), from_less m n xs le h.1)

-- ---- what is in order rises, and ties stay

placed_from : (n : ℕ) (r : Rule) (xs : List Rule) → n ≤ at_of r → AllFrom n xs → AllFrom n (placed r xs)
placed_from n r [] le h = (le, tt)
placed_from n r (x ∷ xs) le h = go (nat_le (at_of r) (at_of x)) (placed_from n r xs le h.1)
  where
    go : (b : Bool) → AllFrom n (placed r xs) → AllFrom n (cond b (r ∷ x ∷ xs) (x ∷ placed r xs))
    go true more = (le, h)
    go false more = (h.0, more)

placed_rises : (r : Rule) (xs : List Rule) → Rising xs → Rising (placed r xs)
placed_rises r [] h = (tt, tt)
placed_rises r (x ∷ xs) h = go (nat_le (at_of r) (at_of x)) refl (placed_rises r xs h.1)
  where
    go : (b : Bool) → nat_le (at_of r) (at_of x) ≡ b → Rising (placed r xs) → Rising (cond b (r ∷ x ∷ xs) (x ∷ placed r xs))
    go true e more = let le : at_of r ≤ at_of x = grind (arith, nat_tests) in ((le, from_less _ _ xs le h.0), h)
    go false e more = let le : at_of x ≤ at_of r = grind (arith, nat_tests) in (placed_from (at_of x) r xs le h.0, more)

in_order_rises : (xs : List Rule) → Rising (in_order xs)
in_order_rises [] = tt
in_order_rises (x ∷ xs) = placed_rises x (in_order xs) (in_order_rises xs)

swap_kept : (p q : Bool) (r x : Rule) (xs : List Rule) → ((p ≡ true) × (q ≡ true) → ⊥)
    → cond q (x ∷ cond p (r ∷ xs) xs) (cond p (r ∷ xs) xs) ≡ cond p (r ∷ cond q (x ∷ xs) xs) (cond q (x ∷ xs) xs)
swap_kept true true r x xs n = absurd (n (refl, refl))
swap_kept true false r x xs n = refl
swap_kept false true r x xs n = refl
swap_kept false false r x xs n = refl

placed_keeps : (z r : Rule) (xs : List Rule) → filter (tied z) (placed r xs) ≡ filter (tied z) (r ∷ xs)
placed_keeps z r [] = refl
placed_keeps z r (x ∷ xs) = go (nat_le (at_of r) (at_of x)) refl (placed_keeps z r xs)
  where
    go : (b : Bool) → nat_le (at_of r) (at_of x) ≡ b → filter (tied z) (placed r xs) ≡ filter (tied z) (r ∷ xs) → filter (tied z) (cond b (r ∷ x ∷ xs) (x ∷ placed r xs)) ≡ filter (tied z) (r ∷ x ∷ xs)
    go true e more = refl
    go false e more =
        let apart : (tied z r ≡ true) × (tied z x ≡ true)
        → ⊥ = λ h. (let f : at_of z ≡ at_of r = tied_at z r h.0 in let g : at_of z ≡ at_of x = tied_at z x h.1 in let lt : at_of x < at_of r = grind (arith, nat_tests) in omega arith) in
        ap (λ w. cond (tied z x) (x ∷ w) w) more ∙ swap_kept (tied z r) (tied z x) r x (filter (tied z) xs) apart

in_order_keeps : (z : Rule) (xs : List Rule) → filter (tied z) (in_order xs) ≡ filter (tied z) xs
in_order_keeps z [] = refl
in_order_keeps z (x ∷ xs) = placed_keeps z x (in_order xs) ∙ ap (λ w. cond (tied z x) (x ∷ w) w) (in_order_keeps z xs)

-- ---- rising lists with the same ties are one

none_above : (z : Rule) (n : ℕ) (xs : List Rule) → at_of z < n → AllFrom n xs → filter (tied z) xs ≡ []
none_above z n [] lt h = refl
none_above z n (x ∷ xs) lt h =
    ap (λ b. cond b (x ∷ filter (tied z) xs) (filter (tied z) xs)) (above_untied z x (omega (arith, h.0))) ∙ none_above z n xs lt h.1

abbrev head_of : Rule → List Rule → Rule
head_of d [] = d
head_of d (x ∷ xs) = x

abbrev tail_of : List Rule → List Rule
tail_of [] = []
tail_of (x ∷ xs) = xs

first_tied : (x : Rule) (xs : List Rule) → filter (tied x) (x ∷ xs) ≡ x ∷ filter (tied x) xs
first_tied x xs = ap (λ b. cond b (x ∷ filter (tied x) xs) (filter (tied x) xs)) (at_tied x x refl)

not_below : (y z : Rule) (ys zs : List Rule) → AllFrom (at_of y) ys → filter (tied z) (y ∷ ys) ≡ filter (tied z) (z ∷ zs) → at_of z < at_of y → ⊥
not_below y z ys zs h e lt =
    let f : filter (tied z) (y ∷ ys) ≡ [] = none_above z (at_of y) (y ∷ ys) lt (omega arith, h) in
    let g : z ∷ filter (tied z) zs ≡ [] = sym (first_tied z zs) ∙ sym e ∙ f in
    cc

cons_kept : (b : Bool) (x : Rule) (xs ys : List Rule) → cond b (x ∷ xs) xs ≡ cond b (x ∷ ys) ys → xs ≡ ys
cons_kept true x xs ys e = ap tail_of e
cons_kept false x xs ys e = e

one_list : (ys zs : List Rule) → Rising ys → Rising zs → ((x : Rule) → filter (tied x) ys ≡ filter (tied x) zs) → ys ≡ zs
one_list [] [] h k e = refl
one_list [] (z ∷ zs) h k e = let f : [] ≡ z ∷ filter (tied z) zs = e z ∙ first_tied z zs in absurd cc
one_list (y ∷ ys) [] h k e = let f : y ∷ filter (tied y) ys ≡ [] = sym (first_tied y ys) ∙ e y in absurd cc
one_list (y ∷ ys) (z ∷ zs) h k e =
    let a : at_of z < at_of y → ⊥ = not_below y z ys zs h.0 (e z) in
    let b : at_of y < at_of z → ⊥ = not_below z y zs ys k.0 (sym (e y)) in
    let same : at_of y ≡ at_of z = grind (arith, a, b) in
    let one : y ∷ filter (tied y) ys ≡ z ∷ filter (tied y) zs =
    sym (first_tied y ys) ∙ e y ∙ ap (λ b. cond b (z ∷ filter (tied y) zs) (filter (tied y) zs)) (at_tied y z same) in
    let head : y ≡ z = ap (head_of y) one in
    let rest : ys ≡ zs = one_list ys zs h.1 k.1 (λ x. cons_kept (tied x y) y (filter (tied x) ys) (filter (tied x) zs) (e x ∙ ap (λ w. filter (tied x) (w ∷ zs)) (sym head))) in
    ap (λ w. w ∷ ys) head ∙ ap (λ w. z ∷ w) rest

-- ---- what a sort says

from_each : (n : ℕ) (d : Rule) (xs : List Rule) → ((k : ℕ) → k < length xs → n ≤ at_of (get_or xs k d)) → AllFrom n xs
from_each n d [] h = tt
from_each n d (x ∷ xs) h = (h zero (omega arith), from_each n d xs (λ k lt. h (suc k) (omega arith)))

rises : (xs : List Rule) → IsNonDecreasingBy at_of xs → Rising xs
rises [] h = tt
rises (x ∷ xs) h =
    (from_each (at_of x) x xs (λ k lt. h zero (suc k) x (omega arith) (omega arith)), rises xs (λ i j d le lt. h (suc i) (suc j) d (omega arith) (omega arith)))

pub stable_sort : (xs ys : List Rule) → IsNonDecreasingBy at_of ys → IsStableByKey at_of nat_cmp xs ys → ys ≡ in_order xs
stable_sort xs ys h s = one_list ys (in_order xs) (rises ys h) (in_order_rises xs) (λ x. s x ∙ sym (in_order_keeps x xs))
