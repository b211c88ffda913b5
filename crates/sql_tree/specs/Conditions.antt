-- What a statement asks of a row, as trees without where they lie in memory.
use Rattle.std.specs.Prelude.{ℕ, Bool, List, map}
use Rattle.sql_tree.specs.Operands.{Operand, operand_of}
use Rattle.sql_tree.specs.declared.conditions.Comparison.{Comparison}
use Rattle.sql_tree.specs.declared.conditions.Condition as code

mutual
  pub data Condition (C P : Type 0) : Type 0 where
    Compare : (at : ℕ) (comparison : Comparison) (left right : Operand C P) → Condition C P
    IsNull : (negated : Bool) (operand : Operand C P) → Condition C P
    In : (at : ℕ) (negated : Bool) (operand : Operand C P) (list : List (Operand C P)) → Condition C P
    Not : (condition : Condition C P) → Condition C P
    AllOf : (conditions : Conditions C P) → Condition C P
    AnyOf : (conditions : Conditions C P) → Condition C P

  -- conditions joined by AND, or by OR
  pub data Conditions (C P : Type 0) : Type 0 where
    NoMore : Conditions C P
    Then : (condition : Condition C P) (more : Conditions C P) → Conditions C P

abbrev mutual
  pub condition_of : {C P : Type 0} → code.Condition C P → Condition C P
  condition_of (code.Compare at comparison left right) = Compare at comparison (operand_of left) (operand_of right)
  condition_of (code.IsNull negated operand) = IsNull negated (operand_of operand)
  condition_of (code.In at negated operand list) = In at negated (operand_of operand) (map operand_of list.items)
  condition_of (code.Not' p condition) = Not (condition_of condition)
  condition_of (code.AllOf' shape conditions) = AllOf (conditions_of conditions)
  condition_of (code.AnyOf' shape conditions) = AnyOf (conditions_of conditions)

  pub conditions_of : {C P : Type 0} {m : _} → code.Row_of-Condition C P m → Conditions C P
  conditions_of code.end_of-Condition = NoMore
  conditions_of (code.more_of-Condition condition rest) = Then (condition_of condition) (conditions_of rest)
