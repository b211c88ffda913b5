-- Each fault of the checks stands at the smallest place of its pass, and no pass before has one; where there is none, no pass has one.
use Rattle.std.specs.Prelude.{◌≡◌, ℕ, ◌≤◌, ◌⊎◌, List, [], ◌∷◌, Ok, Err, true, false}
use Rattle.std.specs.List.{slice_get}
use Rattle.ae_base.specs.declared.types.Ty.{Ty}
use Rattle.ae_base.specs.declared.faults.SqlFault.TheVariants as fault
use Rattle.sql_tree.specs.Bound.{Bound}
use Rattle.sql_tree.specs.Uses.{uses, renamed}
use Rattle.semantic_checks.specs.Clashes.{clashes}
use Rattle.semantic_checks.specs.Grouping.{ungrouped_places}
use Rattle.semantic_checks.specs.Checks.{is_too_long, check_of}

abbrev pub Among : ℕ → List ℕ → Type 0
Among at [] = ⊥
Among at (place ∷ places) = (at ≡ place) ⊎ Among at places

abbrev pub IsBelow : ℕ → List ℕ → Type 0
IsBelow at [] = Unit {0}
IsBelow at (place ∷ places) = (at ≤ place) × IsBelow at places

-- a place is the smallest of some
pub record IsSmallest (places : List ℕ) (at : ℕ) : Type 0 where
  pub among : Among at places
  pub below : IsBelow at places

pub record SmallestFirst : Type 0 where
  pub clash : (bound : Bound) (at : ℕ) → check_of bound ≡ Err (fault.TypeClash at) → IsSmallest (clashes bound) at
  pub group : (bound : Bound) (at : ℕ) → check_of bound ≡ Err (fault.NotGrouped at) → (clashes bound ≡ []) × IsSmallest (ungrouped_places bound) at
  pub length : (bound : Bound) → check_of bound ≡ Err fault.TooLong → (clashes bound ≡ []) × (ungrouped_places bound ≡ [])
  pub fine : (bound : Bound) → check_of bound ≡ Ok tt → (clashes bound ≡ []) × (ungrouped_places bound ≡ []) × (is_too_long bound ≡ false)

-- a statement over other declarations, which have the types of the parameters that it uses, is checked alike
abbrev pub ChecksKeepTheUsed : Type 0
ChecksKeepTheUsed = (f : ℕ → ℕ) (params : List Ty) (bound : Bound) → ((place : ℕ) → uses place bound ≡ true → slice_get params (f place) ≡ slice_get bound.params place)
    → check_of (renamed f params bound) ≡ check_of bound
