-- The conditions so far stand before the others.
use Rattle.std.proofs.Common.{◌≡◌, drop}
use Rattle.sql_tree.specs.Listed.{conditions_listed}
use Rattle.expression_binding.specs.Names.{bind_conditions}
use Rattle.expression_binding.specs.Seen.{scope_seen}
use Rattle.expression_binding.proofs.Trees.{onto_conditions}
use Rattle.expression_binding.proofs.conditions.+bind_condition.Given as goal

abbrev pub invariant-bind_conditions-loop-condition : goal.invariant-bind_conditions-loop-condition
invariant-bind_conditions-loop-condition l =
    bind_conditions (scope_seen l.scope) l.declarations (conditions_listed l.conditions)
    ≡ onto_conditions (conditions_listed l.bound) (bind_conditions (scope_seen l.scope) l.declarations (conditions_listed (drop l.condition-index l.conditions)))
