-- The clashes of AND and OR are those of their conditions.
use Rattle.std.proofs.Common.{◌≡◌, ◌++◌, subst, sym, OnOk}
use Rattle.semantic_checks.specs.Types.{types_seen}
use Rattle.semantic_checks.proofs.ClashTrees.{all_clash, any_clash}
use Rattle.semantic_checks.proofs.clashes.+condition_clashes.Goals as goal

pub condition_clashes-returns-in-AllOf : goal.condition_clashes-returns-in-AllOf
condition_clashes-returns-in-AllOf t c =
    subst (λ z. OnOk c.conditions_clashes.result (c.conditions_clashes.new.found ≡ c.args.found.now ++ z))
    (sym (all_clash (types_seen c.args.types.now) c.args.condition.now c.in-AllOf.all c.deref-in-AllOf.result.now c.in-AllOf.is c.deref-in-AllOf.ensures.value))
    c.conditions_clashes.ensures

pub condition_clashes-returns-in-AnyOf : goal.condition_clashes-returns-in-AnyOf
condition_clashes-returns-in-AnyOf t c =
    subst (λ z. OnOk c.conditions_clashes-in-AnyOf.result (c.conditions_clashes-in-AnyOf.new.found ≡ c.args.found.now ++ z))
    (sym (any_clash (types_seen c.args.types.now) c.args.condition.now c.in-AnyOf.any c.deref-in-AnyOf.result.now c.in-AnyOf.is c.deref-in-AnyOf.ensures.value))
    c.conditions_clashes-in-AnyOf.ensures
