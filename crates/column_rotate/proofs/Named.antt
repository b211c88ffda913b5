-- The parameters of a row: their names, which differ, one after another.
use Rattle.std.proofs.Common.{
  ◌≡◌,
  ℕ,
  suc,
  ◌+◌,
  ◌%◌,
  ◌^◌,
  ◌<◌,
  ◌≤◌,
  List,
  [],
  ◌∷◌,
  ◌++◌,
  length,
  map,
  drop,
  min,
  get_or,
  decimal,
  Bool,
  true,
  false,
  refl,
  sym,
  ap,
  ◌∙◌,
  append_assoc,
  append-nil,
  length-drop,
  drop-cons,
  add-one,
  arith,
}
use Rattle.std.specs.Prelude.{IsTrue}
use Rattle.std.specs.List.{list_all, list_any}
use Rattle.std.specs.Str.{bytes_eq, chars}
use Rattle.std.proofs.lemmas.Bool.{agree_below_at, and_parts}
use Rattle.std.proofs.lemmas.Fmt.{IsAscii-decimal, length-decimal-le_succ, decimal_by_steps, decimal_injective}
use Rattle.std.proofs.lemmas.Slice.Eq.{bytes_eq-Decides}
use Rattle.std.proofs.lemmas.Str.{chars-IsAscii}
use Rattle.std.proofs.lemmas.Str.Ascii.{IsAscii-cons}
use Rattle.ae_base.specs.Names.{is_param_char, IsParamName, all_differ}
use Rattle.ae_base.specs.declared.batches.Param.{Param}
use Rattle.ae_base.specs.declared.values.Value.{Value}
use Rattle.wire_messages.specs.declared.columns.SentColumn.{SentColumn}
use Rattle.column_rotate.specs.Texts.{param_name, params_from}

-- ---- one name

all_push : (p : ℕ → Bool) (xs : List ℕ) (x : ℕ) → list_all p xs ≡ true → p x ≡ true → list_all p (xs ++ x ∷ []) ≡ true
all_push p [] x h e = rw e refl
all_push p (y ∷ ys) x h e =
    let parts = and_parts (p y) (list_all p ys) h in
    let a = parts.0 in
    let b = all_push p ys x parts.1 e in
    rw (a, b) refl

digit_fits : (d : ℕ) → d < 10 → is_param_char (48 + d) ≡ true
digit_fits d l = agree_below_at (λ d. is_param_char (48 + d)) (λ _. true) 10 d refl l

digits_fit : (n : ℕ) → n < 2 ^ 64 → list_all is_param_char (decimal n) ≡ true
digits_fit = decimal_by_steps (λ m ds. list_all is_param_char ds ≡ true) (λ m l. let d = digit_fits m l in rw d refl)
    (λ m ds l h. all_push is_param_char ds (48 + m % 10) h (digit_fits (m % 10) (omega arith)))

pub is_named : (n : ℕ) → n ≤ 64 → IsParamName (param_name n)
is_named n l =
    let d = length-decimal-le_succ n (omega (arith, l)) in
    ((omega arith, omega (arith, d, l)), digits_fit n (omega (arith, l)))

pub named_so : (n : ℕ) (start written name : List ℕ) → n ≤ 64 → start ≡ [] → written ≡ start ++ 99 ∷ decimal n → name ≡ chars written → name ≡ param_name n
named_so n start written name l e f g =
    g ∙ ap chars (f ∙ ap (λ s. s ++ 99 ∷ decimal n) e) ∙ chars-IsAscii (99 ∷ decimal n) (IsAscii-cons 99 (decimal n) (omega arith) (IsAscii-decimal n (omega (arith, l))))

-- ---- names that differ

other_name : (m n : ℕ) → m < n → n ≤ 128 → (same : Bool) → bytes_eq (param_name m) (param_name n) ≡ same → same ≡ false
other_name m n l k false e = refl
other_name m n l k true e =
    let s : param_name m ≡ param_name n = (bytes_eq-Decides (param_name m) (param_name n)).0 e in
    let d : decimal m ≡ decimal n = ap (drop 1) s in
    let i = decimal_injective m n (omega (arith, l, k)) (omega (arith, k)) d in
    absurd (omega (arith, l, i))

abbrev called : List Param → List (List ℕ)
called params = map (λ (p : Param). p.declaration.name) params

none_same : (m n : ℕ) (cs : List SentColumn) (vs : List Value) → m < n → n + length cs ≤ 129 → list_any (bytes_eq (param_name m)) (called (params_from n cs vs)) ≡ false
none_same m n [] vs l k = refl
none_same m n (c ∷ cs) [] l k = refl
none_same m n (c ∷ cs) (v ∷ vs) l k =
    let o = other_name m n l (omega (arith, k)) (bytes_eq (param_name m) (param_name n)) refl in
    let r = none_same m (n + 1) cs vs (omega (arith, l)) (omega (arith, k)) in
    rw (o, r) refl

pub names_differ : (n : ℕ) (cs : List SentColumn) (vs : List Value) → n + length cs ≤ 129 → IsTrue (all_differ (called (params_from n cs vs)))
names_differ n [] vs k = refl
names_differ n (c ∷ cs) [] k = refl
names_differ n (c ∷ cs) (v ∷ vs) k =
    let o = none_same n (n + 1) cs vs (omega arith) (omega (arith, k)) in
    let r = names_differ (n + 1) cs vs (omega (arith, k)) in
    rw o r

pub names_few : (n : ℕ) (cs : List SentColumn) (vs : List Value) → length (params_from n cs vs) ≤ length cs
names_few n [] vs = omega arith
names_few n (c ∷ cs) [] = omega arith
names_few n (c ∷ cs) (v ∷ vs) = let r = names_few (n + 1) cs vs in omega (arith, r)

-- ---- one after another

next_at : {A : Type 0} (xs : List A) (i : ℕ) (x : A) → i < length xs → x ≡ get_or xs i x → drop i xs ≡ x ∷ drop (i + 1) xs
next_at xs i x l e = let d = drop-cons xs i x l in rw add-one (d ∙ ap (λ y. y ∷ drop (suc i) xs) (sym e))

pub listed_more : (cs : List SentColumn) (vs : List Value) (i : ℕ) (c : SentColumn) (v : Value) (all acc new : List Param) (p : Param)
    → i < length cs → i < length vs → c ≡ get_or cs i c → v ≡ get_or vs i v
    → all ≡ acc ++ params_from (i + 1) (drop i cs) (drop i vs) → p ≡ record { declaration = record { name = param_name (i + 1); ty = c.ty }; value = v } → new ≡ acc ++ p ∷ []
    → all ≡ new ++ params_from ((i + 1) + 1) (drop (i + 1) cs) (drop (i + 1) vs)
listed_more cs vs i c v all acc new p l m q r h e f =
    let x = next_at cs i c l q in
    let y = next_at vs i v m r in
    let rest = params_from ((i + 1) + 1) (drop (i + 1) cs) (drop (i + 1) vs) in
    h ∙ ap (λ ds. acc ++ params_from (i + 1) ds (drop i vs)) x ∙ ap (λ us. acc ++ params_from (i + 1) (c ∷ drop (i + 1) cs) us) y
    ∙ ap (λ p. acc ++ p ∷ rest) (sym e) ∙ sym (append_assoc acc (p ∷ []) rest) ∙ ap (λ zs. zs ++ rest) (sym f)

none_left : (n : ℕ) (cs : List SentColumn) (vs : List Value) → min (length cs) (length vs) ≤ 0 → params_from n cs vs ≡ []
none_left n [] vs l = refl
none_left n (c ∷ cs) [] l = refl
none_left n (c ∷ cs) (v ∷ vs) l = absurd (omega (arith, l))

pub listed_all : (cs : List SentColumn) (vs : List Value) (i : ℕ) (all acc : List Param) → min (length cs) (length vs) ≤ i → all ≡ acc ++ params_from (i + 1) (drop i cs) (drop i vs) → acc ≡ all
listed_all cs vs i all acc l h =
    let a = length-drop i cs in
    let b = length-drop i vs in
    let z : min (length (drop i cs)) (length (drop i vs)) ≤ 0 = rw (a, b) (omega (arith, l)) in
    sym (h ∙ ap (λ more. acc ++ more) (none_left (i + 1) (drop i cs) (drop i vs) z) ∙ append-nil acc)
