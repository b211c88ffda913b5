-- AND and OR do where their conditions do.
use Rattle.std.proofs.Common.{sym, ◌∙◌}
use Rattle.lookups.proofs.Trees.{stays-AllOf, stays-AnyOf}
use Rattle.lookups.proofs.reach.+stays.Goals as goal

pub stays-returns-in-AllOf : goal.stays-returns-in-AllOf
stays-returns-in-AllOf t c = c.all_stay.ensures ∙ sym (stays-AllOf c.args.width c.args.condition.now c.in-AllOf.conditions _ c.in-AllOf.is c.deref-in-AllOf.ensures.value)

pub stays-returns-in-AnyOf : goal.stays-returns-in-AnyOf
stays-returns-in-AnyOf t c = c.all_stay-in-AnyOf.ensures ∙ sym (stays-AnyOf c.args.width c.args.condition.now c.in-AnyOf.conditions _ c.in-AnyOf.is c.deref-in-AnyOf.ensures.value)
