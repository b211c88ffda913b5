-- DISTINCT, ORDER BY and TOP keep what holds of each row, and go alike over rows that correspond.
use Rattle.std.proofs.Common.{◌≡◌, ℕ, zero, suc, List, [], ◌∷◌, ◌++◌, map, take, refl, ap, sym, ◌∙◌, Option, Some, None, Bool, true, false, cond, Ordering, is_gt}
use Rattle.std.specs.Prelude.{◌&&◌}
use Rattle.std.specs.Cmp.Lexicographic.{pointwise}
use Rattle.std.specs.List.{All, AllZip, list_any}
use Rattle.std.proofs.lemmas.List.Elements.{All-head, All-tail, All-cons, All-nil}
use Rattle.ae_base.specs.Atoms.{Atom, alike}
use Rattle.sql_tree.specs.declared.bound.BoundOrderKey.{BoundOrderKey}
use Rattle.scalar.specs.Classes.{Class, Pairing, IsOneToOne, RowsCorrespond}
use Rattle.scalar.specs.Typed.{IsNotRandomized}
use Rattle.scalar.proofs.Interface.{alike_alike}
use Rattle.operators.specs.Alike.{are_alike}
use Rattle.operators.specs.Found.{Found, first_seen, keys_cmp, put, sorted_by, top_of}
use Rattle.operators.proofs.Pairs.{any_alike, zip_append}

module _ (P : Found → Type 0) where
  pub all_first : (seen fs : List Found) → All P fs → All P (first_seen seen fs)
  all_first seen [] h = All-nil P
  all_first seen (f ∷ fs) h =
      let rest = All-tail P f fs h in
      by_test (list_any (λ (earlier : Found). are_alike earlier.shown f.shown) seen) (All-head P f fs h) (all_first seen fs rest) (all_first (seen ++ f ∷ []) fs rest)
    where
      by_test : (b : Bool) → P f → All P (first_seen seen fs) → All P (first_seen (seen ++ f ∷ []) fs) → All P (cond b (first_seen seen fs) (f ∷ first_seen (seen ++ f ∷ []) fs))
      by_test true p old new = old
      by_test false p old new = All-cons P f (first_seen (seen ++ f ∷ []) fs) p new

  module _ (cmp : Found → Found → Ordering) where
    all_put : (x : Found) (ys : List Found) → P x → All P ys → All P (put cmp x ys)
    all_put x [] p h = All-cons P x [] p h
    all_put x (y ∷ ys) p h = by_test (is_gt (cmp x y)) (all_put x ys p (All-tail P y ys h))
      where
        by_test : (b : Bool) → All P (put cmp x ys) → All P (cond b (y ∷ put cmp x ys) (x ∷ y ∷ ys))
        by_test true more = All-cons P y (put cmp x ys) (All-head P y ys h) more
        by_test false more = All-cons P x (y ∷ ys) p h

    pub all_sorted : (xs : List Found) → All P xs → All P (sorted_by cmp xs)
    all_sorted [] h = h
    all_sorted (x ∷ xs) h = all_put x (sorted_by cmp xs) (All-head P x xs h) (all_sorted xs (All-tail P x xs h))

  pub all_top : (most : Option ℕ) (fs : List Found) → All P fs → All P (top_of most fs)
  all_top None fs h = h
  all_top (Some zero) fs h = All-nil P
  all_top (Some (suc n)) [] h = All-nil P
  all_top (Some (suc n)) (f ∷ fs) h = All-cons P f (take n fs) (All-head P f fs h) (all_top (Some n) fs (All-tail P f fs h))

-- ---- rows that correspond

module _ (R : Pairing) (cs : List Class) where
  -- rows that are shown at these classes, ordered by values that are equal
  pub record FoundCorresponds (x y : Found) : Type 0 where
    pub keys : y.keys ≡ x.keys
    pub shown : RowsCorrespond R cs x.shown y.shown

  abbrev pub Founds : List Found → List Found → Type 0
  Founds = AllZip FoundCorresponds

are_same : (R : Pairing) (r : IsOneToOne R) (cs : List Class) (a b c d : List Atom) → All IsNotRandomized cs → RowsCorrespond R cs a b → RowsCorrespond R cs c d → are_alike a c ≡ are_alike b d
are_same R r [] [] [] [] [] n h k = refl
are_same R r [] [] [] [] (y ∷ d) n h k = absurd k
are_same R r [] [] [] (x ∷ c) d n h k = absurd k
are_same R r [] [] (y ∷ b) c d n h k = absurd h
are_same R r [] (x ∷ a) b c d n h k = absurd h
are_same R r (s ∷ cs) [] b c d n h k = absurd h
are_same R r (s ∷ cs) (x ∷ a) [] c d n h k = absurd h
are_same R r (s ∷ cs) (x ∷ a) (y ∷ b) [] d n h k = absurd k
are_same R r (s ∷ cs) (x ∷ a) (y ∷ b) (u ∷ c) [] n h k = absurd k
are_same R r (s ∷ cs) (x ∷ a) (y ∷ b) (u ∷ c) (v ∷ d) n h k =
    ap (λ t. t && pointwise alike a c) (alike_alike R r s x y u v (All-head IsNotRandomized s cs n) h.0 k.0)
    ∙ ap (λ t. alike y v && t) (are_same R r cs a b c d (All-tail IsNotRandomized s cs n) h.1 k.1)

module _ (R : Pairing) (r : IsOneToOne R) (cs : List Class) where
  module _ (n : All IsNotRandomized cs) where
    pub firsts_alike : (seen others fs gs : List Found) → Founds R cs seen others → Founds R cs fs gs → Founds R cs (first_seen seen fs) (first_seen others gs)
    firsts_alike seen others [] [] h k = tt
    firsts_alike seen others [] (g ∷ gs) h k = absurd k
    firsts_alike seen others (f ∷ fs) [] h k = absurd k
    firsts_alike seen others (f ∷ fs) (g ∷ gs) h k =
        by_test (list_any (λ (earlier : Found). are_alike earlier.shown f.shown) seen) (list_any (λ (earlier : Found). are_alike earlier.shown g.shown) others)
        (any_alike (FoundCorresponds R cs) (λ (earlier : Found). are_alike earlier.shown f.shown) (λ (earlier : Found). are_alike earlier.shown g.shown) seen others
        (λ x y p. are_same R r cs x.shown y.shown f.shown g.shown n p.shown k.0.shown) h)
        (firsts_alike seen others fs gs h k.1)
        (firsts_alike (seen ++ f ∷ []) (others ++ g ∷ []) fs gs (zip_append (FoundCorresponds R cs) seen (f ∷ []) others (g ∷ []) h (k.0, tt)) k.1)
      where
        by_test : (b c : Bool) → b ≡ c → Founds R cs (first_seen seen fs) (first_seen others gs) → Founds R cs (first_seen (seen ++ f ∷ []) fs) (first_seen (others ++ g ∷ []) gs)
            → Founds R cs (cond b (first_seen seen fs) (f ∷ first_seen (seen ++ f ∷ []) fs)) (cond c (first_seen others gs) (g ∷ first_seen (others ++ g ∷ []) gs))
        by_test true true e old new = old
        by_test true false e old new = absurd cc
        by_test false true e old new = absurd cc
        by_test false false e old new = (k.0, new)

  module _ (order_by : List BoundOrderKey) where
    abbrev pub by_keys : Found → Found → Ordering
    by_keys a b = keys_cmp order_by a.keys b.keys

    put_alike : (x y : Found) (fs gs : List Found) → FoundCorresponds R cs x y → Founds R cs fs gs → Founds R cs (put by_keys x fs) (put by_keys y gs)
    put_alike x y [] [] p h = (p, tt)
    put_alike x y [] (g ∷ gs) p h = absurd h
    put_alike x y (f ∷ fs) [] p h = absurd h
    put_alike x y (f ∷ fs) (g ∷ gs) p h =
        by_test (is_gt (by_keys x f)) (is_gt (by_keys y g))
        (sym (ap (λ ks. is_gt (keys_cmp order_by ks g.keys)) p.keys ∙ ap (λ ks. is_gt (keys_cmp order_by x.keys ks)) h.0.keys)) (put_alike x y fs gs p h.1)
      where
        by_test : (b c : Bool) → b ≡ c → Founds R cs (put by_keys x fs) (put by_keys y gs) → Founds R cs (cond b (f ∷ put by_keys x fs) (x ∷ f ∷ fs)) (cond c (g ∷ put by_keys y gs) (y ∷ g ∷ gs))
        by_test true true e more = (h.0, more)
        by_test true false e more = absurd cc
        by_test false true e more = absurd cc
        by_test false false e more = (p, h)

    pub sorted_alike : (fs gs : List Found) → Founds R cs fs gs → Founds R cs (sorted_by by_keys fs) (sorted_by by_keys gs)
    sorted_alike [] [] h = tt
    sorted_alike [] (g ∷ gs) h = absurd h
    sorted_alike (f ∷ fs) [] h = absurd h
    sorted_alike (f ∷ fs) (g ∷ gs) h = put_alike f g (sorted_by by_keys fs) (sorted_by by_keys gs) h.0 (sorted_alike fs gs h.1)

  pub top_alike : (most : Option ℕ) (fs gs : List Found) → Founds R cs fs gs → Founds R cs (top_of most fs) (top_of most gs)
  top_alike None fs gs h = h
  top_alike (Some zero) fs gs h = tt
  top_alike (Some (suc n)) [] [] h = tt
  top_alike (Some (suc n)) [] (g ∷ gs) h = absurd h
  top_alike (Some (suc n)) (f ∷ fs) [] h = absurd h
  top_alike (Some (suc n)) (f ∷ fs) (g ∷ gs) h = (h.0, top_alike (Some n) fs gs h.1)

  pub shown_alike : (fs gs : List Found) → Founds R cs fs gs → AllZip (RowsCorrespond R cs) (map (λ (f : Found). f.shown) fs) (map (λ (f : Found). f.shown) gs)
  shown_alike [] [] h = tt
  shown_alike [] (g ∷ gs) h = absurd h
  shown_alike (f ∷ fs) [] h = absurd h
  shown_alike (f ∷ fs) (g ∷ gs) h = (h.0.shown, shown_alike fs gs h.1)
