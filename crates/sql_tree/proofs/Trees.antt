-- Sums and junctions as they lie in memory.
use Rattle.std.proofs.Common.{◌≡◌, refl, ap, ◌∙◌, Box, Vec, Global}
use mathlib.Core.Former.{Count}
use Rattle.sql_tree.specs.Operands as operands
use Rattle.sql_tree.specs.Conditions as conditions
use Rattle.sql_tree.specs.declared.operands.Operand as code
use Rattle.sql_tree.specs.declared.operands.Term as code_term
use Rattle.sql_tree.specs.declared.conditions.Condition as code_condition
use Rattle.sql_tree.specs.Listed.{terms_listed, conditions_listed}

terms_of-row : {C P : Type 0} (m : _) (row : code.Row_of-Term C P m) → operands.terms_of row ≡ terms_listed (code.items-the_row-Term C P m row)
terms_of-row m code.end_of-Term = refl
terms_of-row m (code.more_of-Term term rest) = ap (operands.term_before term) (terms_of-row _ rest)

abbrev terms_row : {C P : Type 0} → code.Operand C P → (m : Count) × code.Row_of-Term C P m
terms_row (code.Sum' p first shape terms) = (_, terms)
terms_row _ = (_, code.end_of-Term)

pub operand_of-Sum : {C P : Type 0} (first : Box (code.Operand C P) Global) (terms : Vec (code_term.Term C P) Global)
    → operands.operand_of (code.Sum first terms) ≡ operands.Sum (operands.operand_of first.value) (terms_listed terms.items)
operand_of-Sum first terms =
    let row = terms_row (code.Sum first terms) in
    ap (operands.Sum (operands.operand_of first.value)) (terms_of-row row.0 row.1 ∙ ap terms_listed (code.items_hidden-the_row-Term-0 _ _ terms))

conditions_of-row : {C P : Type 0} (m : _) (row : code_condition.Row_of-Condition C P m) → conditions.conditions_of row ≡ conditions_listed (code_condition.items-the_row-Condition C P m row)
conditions_of-row m code_condition.end_of-Condition = refl
conditions_of-row m (code_condition.more_of-Condition condition rest) = ap (conditions.Then (conditions.condition_of condition)) (conditions_of-row _ rest)

abbrev conditions_row : {C P : Type 0} → code_condition.Condition C P → (m : Count) × code_condition.Row_of-Condition C P m
conditions_row (code_condition.AllOf' shape all) = (_, all)
conditions_row (code_condition.AnyOf' shape all) = (_, all)
conditions_row _ = (_, code_condition.end_of-Condition)

pub condition_of-AllOf : {C P : Type 0} (all : Vec (code_condition.Condition C P) Global) → conditions.condition_of (code_condition.AllOf all) ≡ conditions.AllOf (conditions_listed all.items)
condition_of-AllOf all =
    let row = conditions_row (code_condition.AllOf all) in
    ap conditions.AllOf (conditions_of-row row.0 row.1 ∙ ap conditions_listed (code_condition.items_hidden-the_row-Condition-0 _ _ all))

pub condition_of-AnyOf : {C P : Type 0} (any : Vec (code_condition.Condition C P) Global) → conditions.condition_of (code_condition.AnyOf any) ≡ conditions.AnyOf (conditions_listed any.items)
condition_of-AnyOf any =
    let row = conditions_row (code_condition.AnyOf any) in
    ap conditions.AnyOf (conditions_of-row row.0 row.1 ∙ ap conditions_listed (code_condition.items_hidden-the_row-Condition-0 _ _ any))
