-- A row that a look-up doesn't find isn't hit, and no fault comes of it.
use Rattle.std.proofs.Common.{◌≡◌, ℕ, List, [], ◌∷◌, refl, ap, sym, ◌∙◌, Option, Some, None, Result, Ok, Err, Bool, true, false, cond}
use Rattle.std.specs.Prelude.{filter}
use Rattle.std.specs.List.{All, list_all}
use Rattle.std.proofs.lemmas.List.Elements.{All-nil, All-cons}
use Rattle.ae_base.specs.Atoms.{Atom}
use Rattle.ae_base.specs.Results.{◌>>=◌, each}
use Rattle.ae_base.specs.declared.faults.SqlFault.{SqlFault}
use Rattle.ae_base.specs.declared.tables.ColumnDef.{ColumnDef}
use Rattle.sql_tree.specs.Bound.{BoundCondition, BoundUpdate}
use Rattle.sql_tree.specs.Conditions as conditions
use Rattle.sql_tree.specs.Placed.{IsPlacedCondition, ArePlacedConditions, IsPlacedFilter}
use Rattle.row_changes.specs.Changes.{selects, updated_row, tested_row, row_to_update, row_to_delete}
use Rattle.lookups.specs.Conjuncts.{conjuncts, listed, parts}
use Rattle.lookups.specs.Lookups.{Lookup, lookup_in, is_found, IsLookedUp}
use Rattle.lookups.specs.Reach.{is_safe}
use Rattle.lookups.proofs.Interface.{ok_bool, asks_safe, conjuncts_safe, lookup_given, given_found, given_placed, not_found}
use Rattle.table_changes.specs.Found.{lookup_of_filter, not_hit, among_others}

-- ---- each row in turn

abbrev ok_of : {B : Type 0} → B → Result B SqlFault
ok_of x = Ok x

module _ {A B : Type 0} (p : A → Bool) (f : A → Result B SqlFault) (stay : A → B) (h : (x : A) → p x ≡ false → f x ≡ ok_of (stay x)) where
  abbrev Together : List A → Type 0
  Together xs = each f xs ≡ (each f (filter p xs) >>= λ made. ok_of (among_others p stay xs made))

  add_made : (x : A) (xs : List A) (y : B) (r : Result (List B) SqlFault) → p x ≡ true
      → ((r >>= λ made. ok_of (among_others p stay xs made)) >>= λ ys. ok_of (y ∷ ys)) ≡ ((r >>= λ ys. ok_of (y ∷ ys)) >>= λ made. ok_of (among_others p stay (x ∷ xs) made))
  add_made x xs y (Ok ys) e = sym (ap (λ b. ok_of (cond b (y ∷ among_others p stay xs ys) (stay x ∷ among_others p stay xs (y ∷ ys)))) e)
  add_made x xs y (Err fault) e = refl

  add_stay : (x : A) (xs : List A) (r : Result (List B) SqlFault) → p x ≡ false
      → ((r >>= λ made. ok_of (among_others p stay xs made)) >>= λ ys. ok_of (stay x ∷ ys)) ≡ (r >>= λ made. ok_of (among_others p stay (x ∷ xs) made))
  add_stay x xs (Ok []) e = refl
  add_stay x xs (Ok (y ∷ ys)) e = sym (ap (λ b. ok_of (cond b (y ∷ among_others p stay xs ys) (stay x ∷ among_others p stay xs (y ∷ ys)))) e)
  add_stay x xs (Err fault) e = refl

  pub together : (xs : List A) → Together xs
  together [] = refl
  together (x ∷ xs) = by_test (p x) refl (f x) refl (together xs)
    where
      by_test : (b : Bool) → p x ≡ b → (r : Result B SqlFault) → f x ≡ r → Together xs
          → (f x >>= λ y. each f xs >>= λ ys. ok_of (y ∷ ys)) ≡ (each f (cond b (x ∷ filter p xs) (filter p xs)) >>= λ made. ok_of (among_others p stay (x ∷ xs) made))
      by_test true e (Ok y) g more =
          ap (λ r. r >>= λ y. each f xs >>= λ ys. ok_of (y ∷ ys)) g
          ∙ ap (λ r. r >>= λ ys. ok_of (y ∷ ys)) more
          ∙ add_made x xs y (each f (filter p xs)) e
          ∙ sym (ap (λ r. (r >>= λ y. each f (filter p xs) >>= λ ys. ok_of (y ∷ ys)) >>= λ made. ok_of (among_others p stay (x ∷ xs) made)) g)
      by_test true e (Err fault) g more =
          ap (λ r. r >>= λ y. each f xs >>= λ ys. ok_of (y ∷ ys)) g
          ∙ sym (ap (λ r. (r >>= λ y. each f (filter p xs) >>= λ ys. ok_of (y ∷ ys)) >>= λ made. ok_of (among_others p stay (x ∷ xs) made)) g)
      by_test false e r g more =
          ap (λ r. r >>= λ y. each f xs >>= λ ys. ok_of (y ∷ ys)) (h x e)
          ∙ ap (λ r. r >>= λ ys. ok_of (stay x ∷ ys)) more
          ∙ add_stay x xs (each f (filter p xs)) e

-- ---- rows that aren't found

module _ (keys : List (List ℕ)) (width : ℕ) (params : List Atom) where
  unfound : (condition : Option BoundCondition) (lookup : Lookup) → lookup_of_filter keys width condition ≡ Some lookup
      → (row : List Atom) → is_found params lookup [] row ≡ false → selects params condition row ≡ ok_bool false
  unfound None lookup e row d =
      let found = given_found params 0 [] row refl width [] lookup (lookup_given 0 width [] keys lookup e) refl in
      let wrong : true ≡ false = sym found ∙ d in
      absurd cc
  unfound (Some condition) lookup e row d = by_test (list_all is_safe (conjuncts condition)) refl e
    where
      by_test : (b : Bool) → list_all is_safe (conjuncts condition) ≡ b → cond b (lookup_in 0 width (conjuncts condition) keys) None ≡ Some lookup → selects params (Some condition) row ≡ ok_bool false
      by_test true s e =
          let safe : is_safe condition ≡ true = sym (conjuncts_safe condition) ∙ s in
          asks_safe params condition row safe
          ∙ ap (λ (b : Bool). ok_bool b) (not_found params 0 [] row refl width condition lookup safe (lookup_given 0 width (conjuncts condition) keys lookup e) d)
      by_test false s e = absurd cc

  pub updates_found : (columns : List ColumnDef) (u : BoundUpdate) (rows : List (List Atom)) (lookup : Lookup) → lookup_of_filter keys width u.filter ≡ Some lookup
      → each (row_to_update columns u params) rows
      ≡ (each (row_to_update columns u params) (filter (is_found params lookup []) rows) >>= λ made. Ok (among_others (is_found params lookup []) not_hit rows made))
  updates_found columns u rows lookup e =
      together (is_found params lookup []) (row_to_update columns u params) not_hit (λ row d. ap (λ r. r >>= updated_row columns u params row) (unfound u.filter lookup e row d)) rows

  pub deletes_found : (condition : Option BoundCondition) (rows : List (List Atom)) (lookup : Lookup) → lookup_of_filter keys width condition ≡ Some lookup
      → each (row_to_delete condition params) rows
      ≡ (each (row_to_delete condition params) (filter (is_found params lookup []) rows) >>= λ made. Ok (among_others (is_found params lookup []) not_hit rows made))
  deletes_found condition rows lookup e =
      together (is_found params lookup []) (row_to_delete condition params) not_hit (λ row d. ap (λ r. r >>= tested_row row) (unfound condition lookup e row d)) rows

-- ---- what the look-up reads is there

listed_placed : (columns params : ℕ) (all : conditions.Conditions ℕ ℕ) → ArePlacedConditions columns params all → All (IsPlacedCondition columns params) (listed all)
listed_placed columns params conditions.NoMore h = All-nil (IsPlacedCondition columns params)
listed_placed columns params (conditions.Then condition more) h = All-cons (IsPlacedCondition columns params) condition (listed more) h.0 (listed_placed columns params more h.1)

conjuncts_placed : (columns params : ℕ) (condition : BoundCondition) → IsPlacedCondition columns params condition → All (IsPlacedCondition columns params) (conjuncts condition)
conjuncts_placed columns params (conditions.AllOf all) h = listed_placed columns params all h
conjuncts_placed columns params (conditions.Compare at compared left right) h = All-cons (IsPlacedCondition columns params)
    (conditions.Compare at compared left right) [] h (All-nil (IsPlacedCondition columns params))
conjuncts_placed columns params (conditions.IsNull negated operand) h = All-cons (IsPlacedCondition columns params)
    (conditions.IsNull negated operand) [] h (All-nil (IsPlacedCondition columns params))
conjuncts_placed columns params (conditions.In at negated operand list) h = All-cons (IsPlacedCondition columns params)
    (conditions.In at negated operand list) [] h (All-nil (IsPlacedCondition columns params))
conjuncts_placed columns params (conditions.Not condition) h = All-cons (IsPlacedCondition columns params) (conditions.Not condition) [] h (All-nil (IsPlacedCondition columns params))
conjuncts_placed columns params (conditions.AnyOf any) h = All-cons (IsPlacedCondition columns params) (conditions.AnyOf any) [] h (All-nil (IsPlacedCondition columns params))

parts_placed : (columns params : ℕ) (filter : Option BoundCondition) → IsPlacedFilter columns params filter → All (IsPlacedCondition columns params) (parts filter)
parts_placed columns params None h = All-nil (IsPlacedCondition columns params)
parts_placed columns params (Some condition) h = conjuncts_placed columns params condition h

pub looked_up : (keys : List (List ℕ)) (width params : ℕ) (filter : Option BoundCondition) (lookup : Lookup)
    → lookup_of_filter keys width filter ≡ Some lookup → IsPlacedFilter width params filter → IsLookedUp keys params 0 width lookup
looked_up keys width params filter lookup e h = by_test (list_all is_safe (parts filter)) e
  where
    by_test : (b : Bool) → cond b (lookup_in 0 width (parts filter) keys) None ≡ Some lookup → IsLookedUp keys params 0 width lookup
    by_test true e = given_placed width params 0 width (parts filter) keys lookup e (parts_placed width params filter h)
    by_test false e = absurd cc
