-- Sums and junctions of code, seen as trees.
use Rattle.std.proofs.Common.{◌≡◌, ◌==◌, ℕ, false, List, [], ◌∷◌, length, map, Box, Vec, Global, refl, ◌∙◌, ap}
use Rattle.sql_tree.specs.declared.operands.ColumnRef.{ColumnRef}
use Rattle.sql_tree.specs.declared.operands.Operand as code
use Rattle.sql_tree.specs.declared.operands.Term as code_term
use Rattle.sql_tree.specs.declared.conditions.Condition as code_condition
use Rattle.sql_tree.specs.Operands as operands
use Rattle.sql_tree.specs.Operands.{operand_of}
use Rattle.sql_tree.specs.Conditions as conditions
use Rattle.sql_tree.specs.Conditions.{condition_of}
use Rattle.sql_tree.specs.Listed.{terms_listed, conditions_listed}
use Rattle.sql_tree.proofs.Interface.{operand_of-Sum, condition_of-AllOf, condition_of-AnyOf}
use Rattle.sql_grammar.specs.Making.{sum_with, terms_from, all_with, any_with, conditions_from}
use Rattle.sql_expressions.specs.Views.{signed_of}

abbrev TermTree : Type 0
TermTree = code_term.Term ColumnRef (List ℕ)

abbrev ConditionTree : Type 0
ConditionTree = code_condition.Condition ColumnRef (List ℕ)

terms_seen : (terms : List TermTree) → terms_listed terms ≡ terms_from (map signed_of terms)
terms_seen [] = refl
terms_seen (code_term.Plus at operand ∷ terms) = ap (operands.PlusThen at (operand_of operand)) (terms_seen terms)
terms_seen (code_term.Minus at operand ∷ terms) = ap (operands.MinusThen at (operand_of operand)) (terms_seen terms)

sum_seen : (first : operands.Operand ColumnRef (List ℕ)) (terms : List TermTree) → (length terms == 0) ≡ false → operands.Sum first (terms_listed terms) ≡ sum_with first (map signed_of terms)
sum_seen first [] h = absurd (cc)
sum_seen first (t ∷ ts) h = ap (operands.Sum first) (terms_seen (t ∷ ts))

pub sum_joined : (first : code.Operand ColumnRef (List ℕ)) (box : Box (code.Operand ColumnRef (List ℕ)) Global) (terms : Vec TermTree Global) → box.value ≡ first → (length terms.items == 0) ≡ false
    → operand_of (code.Sum box terms) ≡ sum_with (operand_of first) (map signed_of terms.items)
sum_joined first box terms e h = operand_of-Sum box terms ∙ ap
    (λ (o : code.Operand ColumnRef (List ℕ)). operands.Sum (operand_of o) (terms_listed terms.items)) e ∙ sum_seen (operand_of first) terms.items h

conditions_seen : (cs : List ConditionTree) → conditions_listed cs ≡ conditions_from (map condition_of cs)
conditions_seen [] = refl
conditions_seen (c ∷ cs) = ap (conditions.Then (condition_of c)) (conditions_seen cs)

all_seen : (first : ConditionTree) (more : List ConditionTree) → (length more == 0) ≡ false
    → conditions.AllOf (conditions_listed (first ∷ more)) ≡ all_with (condition_of first) (map condition_of more)
all_seen first [] h = absurd (cc)
all_seen first (c ∷ cs) h = ap conditions.AllOf (ap (conditions.Then (condition_of first)) (conditions_seen (c ∷ cs)))

any_seen : (first : ConditionTree) (more : List ConditionTree) → (length more == 0) ≡ false
    → conditions.AnyOf (conditions_listed (first ∷ more)) ≡ any_with (condition_of first) (map condition_of more)
any_seen first [] h = absurd (cc)
any_seen first (c ∷ cs) h = ap conditions.AnyOf (ap (conditions.Then (condition_of first)) (conditions_seen (c ∷ cs)))

pub all_joined : (first : ConditionTree) (more : List ConditionTree) (all : Vec ConditionTree Global) → all.items ≡ first ∷ more → (length more == 0) ≡ false
    → condition_of (code_condition.AllOf all) ≡ all_with (condition_of first) (map condition_of more)
all_joined first more all e h = condition_of-AllOf all ∙ ap (λ (cs : List ConditionTree). conditions.AllOf (conditions_listed cs)) e ∙ all_seen first more h

pub any_joined : (first : ConditionTree) (more : List ConditionTree) (any : Vec ConditionTree Global) → any.items ≡ first ∷ more → (length more == 0) ≡ false
    → condition_of (code_condition.AnyOf any) ≡ any_with (condition_of first) (map condition_of more)
any_joined first more any e h = condition_of-AnyOf any ∙ ap (λ (cs : List ConditionTree). conditions.AnyOf (conditions_listed cs)) e ∙ any_seen first more h
