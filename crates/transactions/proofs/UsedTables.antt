-- The tables that a transaction has used.
use Rattle.std.proofs.Common.{◌≡◌, ℕ, List, [], ◌∷◌, ◌++◌, refl, ap, subst, Bool, true, false}
use Rattle.std.specs.Prelude.{◌||◌, if◌then◌else◌}
use Rattle.std.specs.List.{All}
use Rattle.std.specs.Str.{bytes_eq}
use Rattle.std.proofs.lemmas.List.Elements.{All-nil, All-cons, All-head, All-tail, All-push}
use Rattle.std.proofs.lemmas.Slice.Eq.{bytes_eq-Decides}
use Rattle.transactions.specs.Counted.{Counted, count_of}
use Rattle.transactions.specs.Stores.{is_used, with_uses}
use Rattle.transactions.specs.declared.uses.Used.{Used}

-- what holds of the used tables holds of a used name
pub used_all : (P : List ℕ → Type 0) (used : List Used) (name : List ℕ) → All (λ u. P u.table) used → is_used used name ≡ true → P name
used_all P [] name h e = absurd cc
used_all P (u ∷ used) name h e = by (bytes_eq u.table name) refl e (λ k. used_all P used name (All-tail (λ u. P u.table) u used h) k)
  where
    by : (b : Bool) → bytes_eq u.table name ≡ b → (b || is_used used name) ≡ true → (is_used used name ≡ true → P name) → P name
    by true t k more = subst P ((bytes_eq-Decides u.table name).0 t) (All-head (λ u. P u.table) u used h)
    by false t k more = more k

abbrev pub Seen : Counted → Used → Type 0
Seen c u = u.seen ≡ count_of c u.table

pub used_push : (used : List Used) (u : Used) (name : List ℕ) → is_used used name ≡ true → is_used (used ++ u ∷ []) name ≡ true
used_push [] u name h = absurd cc
used_push (x ∷ used) u name h = by (bytes_eq x.table name) h (λ k. used_push used u name k)
  where
    by : (b : Bool) → (b || is_used used name) ≡ true → (is_used used name ≡ true → is_used (used ++ u ∷ []) name ≡ true) → (b || is_used (used ++ u ∷ []) name) ≡ true
    by true h more = refl
    by false h more = more h

used_last : (used : List Used) (u : Used) → is_used (used ++ u ∷ []) u.table ≡ true
used_last [] u = ap (λ b. b || false) ((bytes_eq-Decides u.table u.table).1 refl)
used_last (x ∷ used) u = or_one (bytes_eq x.table u.table) (is_used (used ++ u ∷ []) u.table) (used_last used u)
  where
    or_one : (a b : Bool) → b ≡ true → (a || b) ≡ true
    or_one true b e = refl
    or_one false b e = e

-- what is used stays used; and all of the names are
pub noted_keeps : (c : Counted) (names : List (List ℕ)) (used : List Used) (name : List ℕ) → is_used used name ≡ true → is_used (with_uses c used names) name ≡ true
noted_keeps c [] used name h = h
noted_keeps c (n ∷ names) used name h = by (is_used used n) (λ b e. noted_keeps c names (if b then used else used ++ record { table = n; seen = count_of c n } ∷ []) name e)
  where
    by : (b : Bool)
        → ((b : Bool) → is_used (if b then used else used ++ record { table = n; seen = count_of c n } ∷ []) name ≡ true
        → is_used (with_uses c (if b then used else used ++ record { table = n; seen = count_of c n } ∷ []) names) name ≡ true)
        → is_used (with_uses c (if b then used else used ++ record { table = n; seen = count_of c n } ∷ []) names) name ≡ true
    by true more = more true h
    by false more = more false (used_push used (record { table = n; seen = count_of c n }) name h)

pub noted_all : (c : Counted) (names : List (List ℕ)) (used : List Used) → All (λ name. is_used (with_uses c used names) name ≡ true) names
noted_all c [] used = All-nil (λ name. is_used used name ≡ true)
noted_all c (n ∷ names) used = by (is_used used n) refl (λ b. noted_all c names (if b then used else used ++ record { table = n; seen = count_of c n } ∷ []))
  where
    by : (b : Bool) → is_used used n ≡ b
        → ((b : Bool) → All (λ name. is_used (with_uses c (if b then used else used ++ record { table = n; seen = count_of c n } ∷ []) names) name ≡ true) names)
        → All (λ name. is_used (with_uses c (if b then used else used ++ record { table = n; seen = count_of c n } ∷ []) names) name ≡ true) (n ∷ names)
    by true e more = All-cons (λ name. is_used (with_uses c used names) name ≡ true) n names (noted_keeps c names used n e) (more true)
    by false e more =
        let u : Used = record { table = n; seen = count_of c n } in
        All-cons (λ name. is_used (with_uses c (used ++ u ∷ []) names) name ≡ true) n names (noted_keeps c names (used ++ u ∷ []) n (used_last used u)) (more false)

-- what is not used now was not used before
unused_push : (used : List Used) (u : Used) (name : List ℕ) → is_used (used ++ u ∷ []) name ≡ false → is_used used name ≡ false
unused_push used u name h = by (is_used used name) refl
  where
    by : (b : Bool) → is_used used name ≡ b → is_used used name ≡ false
    by true e = let t = used_push used u name e in absurd cc
    by false e = e

pub noted_seen : (base own : Counted) (names : List (List ℕ)) (used : List Used)
    → All (λ name. is_used used name ≡ false → count_of own name ≡ count_of base name) names → All (Seen base) used → All (Seen base) (with_uses own used names)
noted_seen base own [] used same h = h
noted_seen base own (n ∷ names) used same h = by (is_used used n) refl (λ us k g. noted_seen base own names us k g)
  where
    Same : List Used → Type 0
    Same us = All (λ name. is_used us name ≡ false → count_of own name ≡ count_of base name) names

    rest : Same used
    rest = All-tail (λ name. is_used used name ≡ false → count_of own name ≡ count_of base name) n names same

    u : Used
    u = record { table = n; seen = count_of own n }

    by : (b : Bool) → is_used used n ≡ b → ((us : List Used) → Same us → All (Seen base) us → All (Seen base) (with_uses own us names))
        → All (Seen base) (with_uses own (if b then used else used ++ u ∷ []) names)
    by true e more = more used rest h
    by false e more = more (used ++ u ∷ []) (λ i d lt k. rest i d lt (unused_push used u _ k))
        (All-push (Seen base) used u h (All-head (λ name. is_used used name ≡ false → count_of own name ≡ count_of base name) n names same e))
