-- Conditions are bound one after another.
use Rattle.std.proofs.Common.{arith}
use Rattle.sql_tree.specs.Listed.{conditions_listed}
use Rattle.expression_binding.specs.Seen.{scope_seen}
use Rattle.expression_binding.proofs.Trees.{conditions_more, conditions_done}
use Rattle.expression_binding.proofs.conditions.+bind_condition.Goals as goal

pub bind_conditions-loop-condition-preserved : goal.bind_conditions-loop-condition-preserved
bind_conditions-loop-condition-preserved t c =
    rw ((c.in_ok-push.ensures).ok)
    (conditions_more (scope_seen c.args.scope.now) c.args.declarations.now _ c.loop-condition.bound
    c.in_ok-bind_condition.field-0 c.args.conditions.now c.loop-condition.condition-index c.condition-item.result
    (omega arith) c.condition-item.is c.loop-condition.invariant c.in_ok-bind_condition.ensures)

pub bind_conditions-returns : goal.bind_conditions-returns
bind_conditions-returns t c =
    conditions_done (scope_seen c.args.scope.now) c.args.declarations.now _ (conditions_listed c.loop-condition.bound)
    c.args.conditions.now c.loop-condition.condition-index (omega arith) c.loop-condition.invariant
