-- A condition is as true as its parts are, and a list goes on from one to the next.
use Rattle.std.proofs.Common.{rules, length, sym, ap, subst, ◌∙◌, arith}
use Rattle.sql_tree.specs.declared.conditions.Condition.{the_lemmas}
use Rattle.sql_tree.specs.Conditions.{condition_of}
use Rattle.scalar.specs.Eval.{truth}
use Rattle.sql_tree.specs.Listed.{conditions_listed}
use Rattle.sql_tree.specs.Placed.{IsPlacedCondition, ArePlacedConditions}
use Rattle.scalar.proofs.Junctions.{condition_of-AllOf, condition_of-AnyOf, condition_within}
use Rattle.scalar.proofs.conditions.+truth.Goals as goal

pub all_of-truth-requires : goal.all_of-truth-requires
all_of-truth-requires g t c =
    let h : IsPlacedCondition (length c.args.row.now) (length c.args.params.now) (condition_of c.condition-item.result) =
    condition_within _ _ c.args.conditions.now c.loop-condition.condition-index c.condition-item.result (omega arith) c.condition-item.is c.requires in
    λ κs le. (search (rules, the_lemmas), (search rules, h))

pub any_of-truth-requires : goal.any_of-truth-requires
any_of-truth-requires g t c =
    let h : IsPlacedCondition (length c.args.row.now) (length c.args.params.now) (condition_of c.condition-item.result) =
    condition_within _ _ c.args.conditions.now c.loop-condition.condition-index c.condition-item.result (omega arith) c.condition-item.is c.requires in
    λ κs le. (search (rules, the_lemmas), (search rules, h))

pub truth-all_of-requires : goal.truth-all_of-requires
truth-all_of-requires g t c =
    let h : ArePlacedConditions (length c.args.row.now) (length c.args.params.now) (conditions_listed c.deref-in-AllOf.result.now) =
    subst (IsPlacedCondition (length c.args.row.now) (length c.args.params.now))
    (condition_of-AllOf c.args.condition.now c.in-AllOf.conditions c.deref-in-AllOf.result.now c.in-AllOf.is c.deref-in-AllOf.ensures.value) c.requires in
    λ κs le. (search (rules, the_lemmas), (search rules, h))

pub truth-any_of-requires : goal.truth-any_of-requires
truth-any_of-requires g t c =
    let h : ArePlacedConditions (length c.args.row.now) (length c.args.params.now) (conditions_listed c.deref-in-AnyOf.result.now) =
    subst (IsPlacedCondition (length c.args.row.now) (length c.args.params.now))
    (condition_of-AnyOf c.args.condition.now c.in-AnyOf.conditions c.deref-in-AnyOf.result.now c.in-AnyOf.is c.deref-in-AnyOf.ensures.value) c.requires in
    λ κs le. (search (rules, the_lemmas), (search rules, h))

pub truth-returns-in-AllOf : goal.truth-returns-in-AllOf
truth-returns-in-AllOf g t c =
    c.all_of.ensures ∙ sym
    (ap (truth c.args.row.now c.args.params.now) (condition_of-AllOf c.args.condition.now c.in-AllOf.conditions c.deref-in-AllOf.result.now c.in-AllOf.is c.deref-in-AllOf.ensures.value))

pub truth-returns-in-AnyOf : goal.truth-returns-in-AnyOf
truth-returns-in-AnyOf g t c =
    c.any_of.ensures ∙ sym
    (ap (truth c.args.row.now c.args.params.now) (condition_of-AnyOf c.args.condition.now c.in-AnyOf.conditions c.deref-in-AnyOf.result.now c.in-AnyOf.is c.deref-in-AnyOf.ensures.value))
