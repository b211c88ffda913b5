-- New keys that are looked up one after another.
use Rattle.std.proofs.Common.{◌≡◌, ℕ, zero, suc, ◌+◌, ◌<◌, ◌≤◌, List, [], ◌∷◌, ◌++◌, length, get_or, drop, refl, ap, sym, ◌∙◌, arith, Bool, true, false, cond, not, Some}
use Rattle.std.specs.Prelude.{◌||◌, ◌==◌}
use Rattle.std.specs.List.{list_any}
use Rattle.std.proofs.lemmas.Bool.Decides.{nat_tests}
use Rattle.ae_base.specs.Atoms.{Atom}
use Rattle.operators.specs.Alike.{are_alike}
use Rattle.operators.proofs.Interface.{drop_there}
use Rattle.key_index.specs.Numbers.{Keyed}
use Rattle.key_index.specs.Lookups.{is_among, is_known, first_known, first_alike}

-- ---- a number among others

pub among_found : (ns : List ℕ) (number i : ℕ) → i < length ns → get_or ns i 0 ≡ number → is_among ns number ≡ true
among_found [] number i lt e = absurd (omega (arith, lt))
among_found (n ∷ ns) number zero lt e = ap (λ b. b || is_among ns number) same
  where
    same : (n == number) ≡ true
    same = grind (arith, nat_tests)
among_found (n ∷ ns) number (suc i) lt e = ap (λ b. (n == number) || b) (among_found ns number i (omega (arith, lt)) e) ∙ or_true (n == number)
  where
    or_true : (b : Bool) → (b || true) ≡ true
    or_true true = refl
    or_true false = refl

-- those before a place are less, and those from it on are greater
pub among_none : (ns : List ℕ) (number i : ℕ) → ((k : ℕ) → k < i → get_or ns k 0 < number) → ((k : ℕ) → i ≤ k → k < length ns → number < get_or ns k 0) → is_among ns number ≡ false
among_none [] number i less more = refl
among_none (n ∷ ns) number zero less more =
    let above : number < n = more 0 (omega arith) (omega arith) in
    ap (λ b. b || is_among ns number) (differ above) ∙ among_none ns number zero (λ k lt. absurd (omega (arith, lt))) (λ k le lt. more (suc k) (omega arith) (omega (arith, lt)))
  where
    differ : number < n → (n == number) ≡ false
    differ lt = grind (arith, nat_tests)
among_none (n ∷ ns) number (suc i) less more =
    let below : n < number = less 0 (omega arith) in
    ap (λ b. b || is_among ns number) (differ below) ∙ among_none ns number i (λ k lt. less (suc k) (omega (arith, lt))) (λ k le lt. more (suc k) (omega (arith, le)) (omega (arith, lt)))
  where
    differ : n < number → (n == number) ≡ false
    differ lt = grind (arith, nat_tests)

-- ---- new keys, one after another

pub record AreLookedUp (gone : List ℕ) (index : Keyed) (keys : List (List Atom)) (i : ℕ) (seen : List (List Atom)) (old now : ℕ) : Type 0 where
  pub rest : first_alike gone index keys ≡ first_known i gone index seen (drop i keys)
  pub count : now ≡ old + i

module _ (gone : List ℕ) (index : Keyed) (keys : List (List Atom)) (i : ℕ) (key : List Atom) (seen : List (List Atom))
    (old now : ℕ) (lt : i < length keys) (is : key ≡ get_or keys i key) (s : AreLookedUp gone index keys i seen old now) where
  next : (b : Bool) → (is_known gone index key || list_any (are_alike key) seen) ≡ b
      → first_alike gone index keys ≡ cond b (Some i) (first_known (i + 1) gone index (seen ++ key ∷ []) (drop (i + 1) keys))
  next b t = s.rest ∙ ap (first_known i gone index seen) (drop_there keys i key lt is) ∙ ap (λ b. cond b (Some i) (first_known (i + 1) gone index (seen ++ key ∷ []) (drop (i + 1) keys))) t

  pub found_known : is_known gone index key ≡ true → Some i ≡ first_alike gone index keys
  found_known t = sym (next true (ap (λ b. b || list_any (are_alike key) seen) t))

  pub found_seen : list_any (are_alike key) seen ≡ true → Some i ≡ first_alike gone index keys
  found_seen t = sym (next true (ap (λ b. is_known gone index key || b) t ∙ or_true (is_known gone index key)))
    where
      or_true : (b : Bool) → (b || true) ≡ true
      or_true true = refl
      or_true false = refl

  pub looked_more : (later : ℕ) → later ≡ now + 1 → is_known gone index key ≡ false → list_any (are_alike key) seen ≡ false → AreLookedUp gone index keys (i + 1) (seen ++ key ∷ []) old later
  looked_more later l t u = record { rest = next false (ap (λ b. b || list_any (are_alike key) seen) t ∙ u); count = omega (arith, l, s.count) }

-- a key that was noted anew wasn't seen before
pub was_new : (b t : Bool) → b ≡ not t → b ≡ true → t ≡ false
was_new b true e f = absurd cc
was_new b false e f = refl

pub was_there : (b t : Bool) → b ≡ not t → b ≡ false → t ≡ true
was_there b true e f = refl
was_there b false e f = absurd cc
