-- The rules of conditions joined by AND, or by OR, are those of each, one after another.
use Rattle.std.proofs.Common.{refl, arith}
use Rattle.sql_tree.specs.Conditions.{condition_of}
use Rattle.sql_tree.specs.Listed.{conditions_listed}
use Rattle.enc_types.specs.Rules.{condition_rules, conditions_rules}
use Rattle.enc_types.proofs.Walks.{walk_more, walk_all}
use Rattle.enc_types.proofs.Trees.{rules_of-AllOf, rules_of-AnyOf, condition_step}
use Rattle.enc_types.proofs.conditions.+condition.Goals as goal

pub of_condition-returns-in-AllOf : goal.of_condition-returns-in-AllOf
of_condition-returns-in-AllOf t c =
    rw (rules_of-AllOf c.args.condition.now c.in-AllOf.conditions c.deref-in-AllOf.result.now c.in-AllOf.is c.deref-in-AllOf.ensures.value) c.of_conditions.ensures

pub of_condition-returns-in-AnyOf : goal.of_condition-returns-in-AnyOf
of_condition-returns-in-AnyOf t c =
    rw (rules_of-AnyOf c.args.condition.now c.in-AnyOf.conditions c.deref-in-AnyOf.result.now c.in-AnyOf.is c.deref-in-AnyOf.ensures.value) c.of_conditions-in-AnyOf.ensures

pub of_conditions-loop-condition-preserved : goal.of_conditions-loop-condition-preserved
of_conditions-loop-condition-preserved t c =
    walk_more (λ cs. conditions_rules (conditions_listed cs)) (λ x. condition_rules (condition_of x)) condition_step
    _ _ _ c.args.conditions.now c.loop-condition.condition-index c.condition-item.result (omega arith) c.condition-item.is c.loop-condition.invariant c.in_ok-of_condition.ensures

pub of_conditions-returns : goal.of_conditions-returns
of_conditions-returns t c = walk_all (λ cs. conditions_rules (conditions_listed cs)) refl _ _ c.args.conditions.now c.loop-condition.condition-index (omega arith) c.loop-condition.invariant
