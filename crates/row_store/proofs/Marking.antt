-- Places that are marked, one row after another.
use Rattle.std.proofs.Common.{
  ◌≡◌,
  ℕ,
  zero,
  suc,
  ◌+◌,
  ◌-◌,
  ◌<◌,
  ◌≤◌,
  List,
  [],
  ◌∷◌,
  ◌++◌,
  length,
  get_or,
  take,
  drop,
  map,
  slice_set,
  refl,
  ap,
  sym,
  ◌∙◌,
  subst,
  append_assoc,
  arith,
  Bool,
  true,
  false,
  cond,
  inl,
  inr,
  ◌⊎◌,
}
use Rattle.std.specs.Prelude.{◌==◌, ◌&&◌, nat_le, nat_lt}
use Rattle.std.proofs.lemmas.Bool.{leb-true, leb-false, ltb-true, ltb-false}
use Rattle.std.proofs.lemmas.Bool.Decides.{nat_tests}
use Rattle.std.proofs.lemmas.List.{append-nil, drop_all, drop_more, length-drop, length-set}
use Rattle.row_store.specs.Changes.{unhit, hit, marked, passed, is_at, is_inside, IsPast, written}
use Rattle.row_store.specs.declared.changes.Change.{Change}
use Rattle.row_store.specs.Numbers.{AreRising}
use Rattle.row_store.proofs.Rising.{rising_least}

pub drop_drop : {A : Type 0} (n m : ℕ) (xs : List A) → drop n (drop m xs) ≡ drop (m + n) xs
drop_drop n zero xs = let e : n ≡ zero + n = omega arith in ap (λ k. drop k xs) e
drop_drop n (suc m) [] = drop_all n [] (omega arith) ∙ sym (drop_all (suc m + n) [] (omega arith))
drop_drop n (suc m) (x ∷ xs) = let e : suc (m + n) ≡ suc m + n = omega arith in drop_drop n m xs ∙ ap (λ k. drop k (x ∷ xs)) e

pub first_left : {A : Type 0} (xs : List A) (i : ℕ) (d : A) → get_or xs i d ≡ get_or (drop i xs) 0 d
first_left xs zero d = refl
first_left [] (suc i) d = refl
first_left (x ∷ xs) (suc i) d = first_left xs i d

pub marked_long : (place count : ℕ) (places : List ℕ) → length (marked place count places) ≡ count
marked_long place zero places = refl
marked_long place (suc count) places = ap suc (marked_long (place + 1) count (passed place places))

-- ---- how many places are used

pub past_start : (place : ℕ) (places : List ℕ) → IsPast place 0 places 0
past_start place places = λ more.
    let n : 0 + more ≡ more = omega arith in
    let p : place ≡ place + 0 = omega arith in
    ap (λ k. marked place k places) n ∙ ap (λ k. marked k more places) p

pub past_next : (place at : ℕ) (places : List ℕ) (used next : ℕ) → IsPast place at places used → drop next places ≡ passed (place + at) (drop used places) → IsPast place (at + 1) places next
past_next place at places used next s e = λ more.
    let n : at + 1 + more ≡ at + suc more = omega arith in
    let p : place + at + 1 ≡ place + (at + 1) = omega arith in
    ap (λ k. drop (at + 1) (marked place k places)) n ∙ sym (drop_drop 1 at (marked place (at + suc more) places)) ∙ ap (drop 1) (s (suc more))
    ∙ ap (marked (place + at + 1) more) (sym e) ∙ ap (λ k. marked k more (drop next places)) p

pub past_used : (place at : ℕ) (places : List ℕ) (used : ℕ) → IsPast place at places used → true ≡ is_at (place + at) (drop used places) → IsPast place (at + 1) places (used + 1)
past_used place at places used s e = past_next place at places used (used + 1) s (sym (drop_drop 1 used places) ∙ ap (λ b. cond b (drop 1 (drop used places)) (drop used places)) e)

pub past_kept : (place at : ℕ) (places : List ℕ) (used : ℕ) → IsPast place at places used → false ≡ is_at (place + at) (drop used places) → IsPast place (at + 1) places used
past_kept place at places used s e = past_next place at places used used s (ap (λ b. cond b (drop 1 (drop used places)) (drop used places)) e)

-- whether the next row is marked
pub marked_at : (place at count : ℕ) (places : List ℕ) (used : ℕ) → at < count → IsPast place at places used → get_or (marked place count places) at false ≡ is_at (place + at) (drop used places)
marked_at place at count places used lt s =
    let n : count ≡ at + suc (count - at - 1) = omega (arith, lt) in
    first_left (marked place count places) at false ∙ ap (λ k. get_or (drop at (marked place k places)) 0 false) n ∙ ap (λ hits. get_or hits 0 false) (s (suc (count - at - 1)))

-- the rows of a page, and those behind it
pub marked_front : (place count more : ℕ) (places : List ℕ) → take count (marked place (count + more) places) ≡ marked place count places
marked_front place zero more places = refl
marked_front place (suc count) more places =
    let n : suc count + more ≡ suc (count + more) = omega arith in
    ap (λ k. take (suc count) (marked place k places)) n ∙ ap (λ hits. is_at place places ∷ hits) (marked_front (place + 1) count more (passed place places))

-- ---- no row is hit, if the first place is none of theirs

abbrev IsOutside : (first end : ℕ) → List ℕ → Type 0
IsOutside first end [] = Unit {0}
IsOutside first end (p ∷ places) = (p < first) ⊎ (end ≤ p)

outside : (first end : ℕ) (places : List ℕ) → is_inside first end places ≡ false → IsOutside first end places
outside first end [] e = tt
outside first end (p ∷ places) e = by_tests (nat_le first p) refl (nat_lt p end) refl e
  where
    by_tests : (a : Bool) → nat_le first p ≡ a → (b : Bool) → nat_lt p end ≡ b → (a && b) ≡ false → (p < first) ⊎ (end ≤ p)
    by_tests false ea b eb h = inl (leb-false first p ea)
    by_tests true ea false eb h = inr (ltb-false p end eb)
    by_tests true ea true eb h = absurd cc

-- and if it is, it lies among them
pub record IsFirst (first end : ℕ) (places : List ℕ) : Type 0 where
  pub some : 0 < length places
  pub above : first ≤ get_or places 0 0
  pub below : get_or places 0 0 < end

pub inside : (first end : ℕ) (places : List ℕ) → is_inside first end places ≡ true → IsFirst first end places
inside first end [] e = absurd cc
inside first end (p ∷ places) e = by_tests (nat_le first p) refl (nat_lt p end) refl e
  where
    by_tests : (a : Bool) → nat_le first p ≡ a → (b : Bool) → nat_lt p end ≡ b → (a && b) ≡ true → IsFirst first end (p ∷ places)
    by_tests false ea b eb h = absurd cc
    by_tests true ea false eb h = absurd cc
    by_tests true ea true eb h = record { some = omega arith; above = leb-true first p ea; below = ltb-true p end eb }

not_at : (place end : ℕ) (places : List ℕ) → place < end → IsOutside place end places → is_at place places ≡ false
not_at place end [] lt s = refl
not_at place end (p ∷ places) lt s = elim s [ inl less ↦ below less | inr more ↦ above more ]
  where
    below : p < place → (p == place) ≡ false
    below less = grind (arith, nat_tests)

    above : end ≤ p → (p == place) ≡ false
    above more = grind (arith, nat_tests)

outside_next : (place end next last : ℕ) (places : List ℕ) → place ≤ next → end ≡ last → IsOutside place end places → IsOutside next last places
outside_next place end next last [] le e s = tt
outside_next place end next last (p ∷ places) le e s = elim s [ inl less ↦ inl (omega (arith, le, less)) | inr more ↦ inr (omega (arith, e, more)) ]

none_unhit : {T : Type 0} (rows : List T) (place count : ℕ) (places : List ℕ) → length rows ≡ count → IsOutside place (place + count) places → unhit rows (marked place count places) ≡ rows
none_unhit [] place count places n s = refl
none_unhit (row ∷ rows) place zero places n s = absurd (omega (arith, n))
none_unhit (row ∷ rows) place (suc count) places n s =
    let none = not_at place (place + suc count) places (omega arith) s in
    let end : place + suc count ≡ place + 1 + count = omega arith in
    ap (λ b. unhit (row ∷ rows) (b ∷ marked (place + 1) count (cond b (drop 1 places) places))) none
    ∙ ap (λ l. row ∷ l) (none_unhit rows (place + 1) count places (omega (arith, n)) (outside_next place (place + suc count) (place + 1) (place + 1 + count) places (omega arith) end s))

none_past : (place count : ℕ) (places : List ℕ) → IsOutside place (place + count) places → IsPast place count places 0
none_past place count places s = up_to count (omega arith)
  where
    up_to : (at : ℕ) → at ≤ count → IsPast place at places 0
    up_to zero le = past_start place places
    up_to (suc at) le =
        let one : at + 1 ≡ suc at = omega arith in
        let here = outside_next place (place + count) (place + at) (place + count) places (omega arith) refl s in
        subst (λ k. IsPast place k places 0) one (past_kept place at places 0 (up_to at (omega (arith, le))) (sym (not_at (place + at) (place + count) places (omega (arith, le)) here)))

pub outside_unhit : {T : Type 0} (rows : List T) (place : ℕ) (places : List ℕ) → is_inside place (place + length rows) places ≡ false → unhit rows (marked place (length rows) places) ≡ rows
outside_unhit rows place places e = none_unhit rows place (length rows) places refl (outside place (place + length rows) places e)

pub outside_past : (place count : ℕ) (places : List ℕ) → is_inside place (place + count) places ≡ false → IsPast place count places 0
outside_past place count places e = none_past place count places (outside place (place + count) places e)

-- ---- how many rows are hit

pub marked_count : {T : Type 0} (rows : List T) (place count : ℕ) (places : List ℕ) → length rows ≡ count
    → AreRising place (place + count) places → length (unhit rows (marked place count places)) + length places ≡ count
marked_count [] place count [] n r = omega (arith, n)
marked_count [] place count (p ∷ places) n r = absurd (omega (arith, n, r.0, r.1))
marked_count (row ∷ rows) place zero places n r = absurd (omega (arith, n))
marked_count (row ∷ rows) place (suc count) [] n r = omega (arith, marked_count rows (place + 1) count [] (omega (arith, n)) (omega arith))
marked_count {T} (row ∷ rows) place (suc count) (p ∷ places) n r = by_test (p == place) refl (λ ps h. marked_count rows (place + 1) count ps (omega (arith, n)) h)
  where
    by_test : (b : Bool) → (p == place) ≡ b → ((ps : List ℕ) → AreRising (place + 1) (place + 1 + count) ps → length (unhit rows (marked (place + 1) count ps)) + length ps ≡ count)
        → length (unhit (row ∷ rows) (b ∷ marked (place + 1) count (cond b places (p ∷ places)))) + suc (length places) ≡ suc count
    by_test true e rest =
        let same : p + 1 ≡ place + 1 = next e in
        let to : place + suc count ≡ place + 1 + count = omega arith in
        let some = rest places (subst (λ k. AreRising k (place + 1 + count) places) same (subst (λ k. AreRising (p + 1) k places) to r.2)) in
        omega (arith, some)
      where
        next : (p == place) ≡ true → p + 1 ≡ place + 1
        next e = grind (arith, nat_tests)
    by_test false e rest =
        let apart : place + 1 ≤ p = differ e r.0 in
        let to : place + suc count ≡ place + 1 + count = omega arith in
        let some = rest (p ∷ places) (apart, omega (arith, r.1), subst (λ k. AreRising (p + 1) k places) to r.2) in
        omega (arith, some)
      where
        differ : (p == place) ≡ false → place ≤ p → place + 1 ≤ p
        differ e le = grind (arith, nat_tests)

-- ---- the rows that are hit, one after another

next_hit : {T : Type 0} (rows : List T) (place p k : ℕ) (places : List ℕ) (d : T) → p ≡ place + k → k < length rows
    → hit rows (marked place (length rows) (p ∷ places)) ≡ get_or rows k d ∷ hit (drop (k + 1) rows) (marked (p + 1) (length (drop (k + 1) rows)) places)
next_hit [] place p k places d e lt = absurd (omega (arith, lt))
next_hit {T} (row ∷ rows) place p zero places d e lt =
    let from : place + 1 ≡ p + 1 = omega (arith, e) in
    ap (λ b. hit (row ∷ rows) (b ∷ marked (place + 1) (length rows) (cond b places (p ∷ places)))) same ∙ ap (λ n. row ∷ hit rows (marked n (length rows) places)) from
  where
    same : (p == place) ≡ true
    same = grind (arith, nat_tests)
next_hit {T} (row ∷ rows) place p (suc k) places d e lt =
    let next : p ≡ place + 1 + k = omega (arith, e) in
    let one : suc (k + 1) ≡ suc k + 1 = omega arith in
    ap (λ b. hit (row ∷ rows) (b ∷ marked (place + 1) (length rows) (cond b places (p ∷ places)))) differ ∙ next_hit rows (place + 1) p k places d next (omega (arith, lt))
    ∙ ap (λ n. get_or rows k d ∷ hit (drop n (row ∷ rows)) (marked (p + 1) (length (drop n (row ∷ rows))) places)) one
  where
    differ : (p == place) ≡ false
    differ = grind (arith, nat_tests)

none_hit : {T : Type 0} (rows : List T) (place count : ℕ) → hit rows (marked place count []) ≡ []
none_hit [] place count = refl
none_hit (row ∷ rows) place zero = refl
none_hit (row ∷ rows) place (suc count) = none_hit rows (place + 1) count

read_left : {T : Type 0} (rows : List T) (n k : ℕ) (d : T) → get_or (drop n rows) k d ≡ get_or rows (n + k) d
read_left rows zero k d = let e : k ≡ zero + k = omega arith in ap (λ m. get_or rows m d) e
read_left [] (suc n) k d = refl
read_left (r ∷ rows) (suc n) k d = let e : suc (n + k) ≡ suc n + k = omega arith in read_left rows n k d ∙ ap (λ m. get_or (r ∷ rows) m d) e

-- the rows at the places so far are lent
pub record AreLent {T : Type 0} (rows : List T) (places : List ℕ) (i : ℕ) (lent : List T) : Type 0 where
  pub from : ℕ
  pub so_far : hit rows (marked 0 (length rows) places) ≡ lent ++ hit (drop from rows) (marked from (length (drop from rows)) (drop i places))
  pub rising : AreRising from (length rows) (drop i places)

pub lent_start : {T : Type 0} (rows : List T) (places : List ℕ) → AreRising 0 (length rows) places → AreLent rows places 0 []
lent_start rows places h = record { from = 0; so_far = refl; rising = h }

module _ {T : Type 0} (rows : List T) (places : List ℕ) (i p : ℕ) (lent : List T) (lt : i < length places) (is : p ≡ get_or places i 0) (s : AreLent rows places i lent) where
  here : drop i places ≡ p ∷ drop (i + 1) places
  here = drop_more places i 0 lt ∙ ap (λ q. q ∷ drop (i + 1) places) (sym is)

  left_here : AreRising s.from (length rows) (p ∷ drop (i + 1) places)
  left_here = subst (AreRising s.from (length rows)) here s.rising

  pub lent_within : p < length rows
  lent_within = left_here.1

  pub lent_more : (row : T) → row ≡ get_or rows p row → AreLent rows places (i + 1) (lent ++ row ∷ [])
  lent_more row e =
      let k = p - s.from in
      let at : p ≡ s.from + k = omega (arith, left_here.0) in
      let inside : k < length (drop s.from rows) = omega (arith, at, left_here.1, length-drop s.from rows) in
      let next : s.from + (k + 1) ≡ p + 1 = omega (arith, at) in
      let it : get_or (drop s.from rows) k row ≡ row = read_left rows s.from k row ∙ ap (λ n. get_or rows n row) (sym at) ∙ sym e in
      let rest : drop (k + 1) (drop s.from rows) ≡ drop (p + 1) rows = drop_drop (k + 1) s.from rows ∙ ap (λ n. drop n rows) next in
      record {
        from = p + 1;
        so_far =
            s.so_far ∙ ap (λ ps. lent ++ hit (drop s.from rows) (marked s.from (length (drop s.from rows)) ps)) here
            ∙ ap (λ l. lent ++ l) (next_hit (drop s.from rows) s.from p k (drop (i + 1) places) row at inside)
            ∙ ap (λ r. lent ++ r ∷ hit (drop (k + 1) (drop s.from rows)) (marked (p + 1) (length (drop (k + 1) (drop s.from rows))) (drop (i + 1) places))) it
            ∙ ap (λ l. lent ++ row ∷ hit l (marked (p + 1) (length l) (drop (i + 1) places))) rest
            ∙ sym (append_assoc lent (row ∷ []) (hit (drop (p + 1) rows) (marked (p + 1) (length (drop (p + 1) rows)) (drop (i + 1) places))));
        rising = left_here.2;
      }

pub lent_over : {T : Type 0} (rows : List T) (places : List ℕ) (i : ℕ) (lent : List T) → length places ≤ i → AreLent rows places i lent → lent ≡ hit rows (marked 0 (length rows) places)
lent_over rows places i lent le s =
    sym (s.so_far ∙ ap (λ ps. lent ++ hit (drop s.from rows) (marked s.from (length (drop s.from rows)) ps)) (drop_all i places le)
    ∙ ap (λ l. lent ++ l) (none_hit (drop s.from rows) s.from (length (drop s.from rows))) ∙ append-nil lent)

-- the rows at places that rise
pub hit_read : {T : Type 0} (rows : List T) (from : ℕ) (places : List ℕ) (d : T) → AreRising from (length rows) places
    → hit (drop from rows) (marked from (length (drop from rows)) places) ≡ map (λ p. get_or rows p d) places
hit_read rows from [] d h = none_hit (drop from rows) from (length (drop from rows))
hit_read {T} rows from (p ∷ places) d h =
    let k = p - from in
    let at : p ≡ from + k = omega (arith, h.0) in
    let inside : k < length (drop from rows) = omega (arith, at, h.1, length-drop from rows) in
    let next : from + (k + 1) ≡ p + 1 = omega (arith, at) in
    let rest : drop (k + 1) (drop from rows) ≡ drop (p + 1) rows = drop_drop (k + 1) from rows ∙ ap (λ n. drop n rows) next in
    next_hit (drop from rows) from p k places d at inside
    ∙ ap (λ r. r ∷ hit (drop (k + 1) (drop from rows)) (marked (p + 1) (length (drop (k + 1) (drop from rows))) places)) (read_left rows from k d ∙ ap (λ n. get_or rows n d) (sym at))
    ∙ ap (λ l. get_or rows p d ∷ hit l (marked (p + 1) (length l) places)) rest
    ∙ ap (λ l. get_or rows p d ∷ l) (hit_read rows (p + 1) places d h.2)

-- each of the places is marked
abbrev IsRead : (place count : ℕ) → List ℕ → ℕ → Type 0
IsRead place count qs k = get_or (marked place count qs) (get_or qs k 0 - place) false ≡ true

read_marked : (place count : ℕ) (places : List ℕ) (j : ℕ) → AreRising place (place + count) places → j < length places → IsRead place count places j
read_marked place count [] j h lt = absurd (omega (arith, lt))
read_marked place zero (p ∷ places) j h lt = absurd (omega (arith, h.0, h.1))
read_marked place (suc count) (p ∷ places) j h lt = by_test (p == place) refl (λ qs k r l. read_marked (place + 1) count qs k r l) j lt
  where
    to : place + suc count ≡ place + 1 + count
    to = omega arith

    later : (qs : List ℕ) (k : ℕ) (b : Bool) → AreRising (place + 1) (place + 1 + count) qs → k < length qs
        → IsRead (place + 1) count qs k → get_or (b ∷ marked (place + 1) count qs) (get_or qs k 0 - place) false ≡ true
    later qs k b r l e =
        let least = rising_least (place + 1) (place + 1 + count) qs k 0 r l in
        let n : get_or qs k 0 - place ≡ suc (get_or qs k 0 - (place + 1)) = omega (arith, least) in
        ap (λ m. get_or (b ∷ marked (place + 1) count qs) m false) n ∙ e

    first : (p == place) ≡ true → p - place ≡ 0
    first e = grind (arith, nat_tests)

    next : (p == place) ≡ true → p + 1 ≡ place + 1
    next e = grind (arith, nat_tests)

    apart : (p == place) ≡ false → place ≤ p → place + 1 ≤ p
    apart e le = grind (arith, nat_tests)

    by_test : (b : Bool) → (p == place) ≡ b → ((qs : List ℕ) (k : ℕ) → AreRising (place + 1) (place + 1 + count) qs → k < length qs → IsRead (place + 1) count qs k) → (j : ℕ) → j < suc (length places)
        → get_or (b ∷ marked (place + 1) count (cond b places (p ∷ places))) (get_or (p ∷ places) j 0 - place) false ≡ true
    by_test true e rest zero lt = ap (λ k. get_or (true ∷ marked (place + 1) count places) k false) (first e)
    by_test true e rest (suc j) lt =
        let r = subst (λ k. AreRising k (place + 1 + count) places) (next e) (subst (λ k. AreRising (p + 1) k places) to h.2) in
        later places j true r (omega (arith, lt)) (rest places j r (omega (arith, lt)))
    by_test false e rest j lt =
        let r : AreRising (place + 1) (place + 1 + count) (p ∷ places) = (apart e h.0, omega (arith, h.1), subst (λ k. AreRising (p + 1) k places) to h.2) in
        later (p ∷ places) j false r lt (rest (p ∷ places) j r lt)

pub marked_read : (count : ℕ) (places : List ℕ) (j : ℕ) → AreRising 0 count places → j < length places → get_or (marked 0 count places) (get_or places j 0) false ≡ true
marked_read count places j h lt =
    let n : count ≡ 0 + count = omega arith in
    let m : get_or places j 0 - 0 ≡ get_or places j 0 = omega arith in
    ap (λ k. get_or (marked 0 count places) k false) (sym m) ∙ read_marked 0 count places j (subst (λ k. AreRising 0 k places) n h) lt

pub written_long : {T : Type 0} (rows : List T) (changes : List (Change T)) → length (written rows changes) ≡ length rows
written_long rows [] = refl
written_long rows (change ∷ changes) = written_long (slice_set rows change.place change.row) changes ∙ length-set rows change.place change.row
