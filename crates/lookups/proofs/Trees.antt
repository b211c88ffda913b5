-- Conditions as they lie in memory.
use Rattle.std.proofs.Common.{◌≡◌, ℕ, List, [], ◌∷◌, map, refl, ap, sym, ◌∙◌, Vec, Global, Option}
use Rattle.sql_tree.specs.Conditions.{condition_of}
use Rattle.sql_tree.specs.declared.conditions.Condition as code
use Rattle.sql_tree.specs.Listed.{conditions_listed}
use Rattle.sql_tree.proofs.Interface.{condition_of-AllOf, condition_of-AnyOf}
use Rattle.lookups.specs.Conjuncts.{listed, conjuncts}
use Rattle.lookups.specs.Reach.{stays, all_stay}

pub stays-AllOf : (width : Option ℕ) (condition : code.Condition ℕ ℕ) (all : Vec (code.Condition ℕ ℕ) Global) (items : List (code.Condition ℕ ℕ)) → condition ≡ code.AllOf all → items ≡ all.items
    → stays width (condition_of condition) ≡ all_stay width (conditions_listed items)
stays-AllOf width condition all items e f = ap (stays width) (ap condition_of e ∙ condition_of-AllOf all) ∙ ap (λ x. all_stay width (conditions_listed x)) (sym f)

pub stays-AnyOf : (width : Option ℕ) (condition : code.Condition ℕ ℕ) (any : Vec (code.Condition ℕ ℕ) Global) (items : List (code.Condition ℕ ℕ)) → condition ≡ code.AnyOf any → items ≡ any.items
    → stays width (condition_of condition) ≡ all_stay width (conditions_listed items)
stays-AnyOf width condition any items e f = ap (stays width) (ap condition_of e ∙ condition_of-AnyOf any) ∙ ap (λ x. all_stay width (conditions_listed x)) (sym f)

listed-map : (items : List (code.Condition ℕ ℕ)) → listed (conditions_listed items) ≡ map (λ (c : code.Condition ℕ ℕ). condition_of c) items
listed-map [] = refl
listed-map (c ∷ items) = ap (λ cs. condition_of c ∷ cs) (listed-map items)

pub conjuncts-AllOf : (condition : code.Condition ℕ ℕ) (all : Vec (code.Condition ℕ ℕ) Global) (items : List (code.Condition ℕ ℕ)) → condition ≡ code.AllOf all → items ≡ all.items
    → map (λ (c : code.Condition ℕ ℕ). condition_of c) items ≡ conjuncts (condition_of condition)
conjuncts-AllOf condition all items e f = sym (ap conjuncts (ap condition_of e ∙ condition_of-AllOf all) ∙ ap (λ x. listed (conditions_listed x)) (sym f) ∙ listed-map items)
