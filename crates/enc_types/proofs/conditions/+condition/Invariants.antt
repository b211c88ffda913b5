-- What is there, with the rules of the conditions that are left, is the whole.
use Rattle.std.proofs.Common.{◌≡◌, ◌++◌, drop}
use Rattle.sql_tree.specs.Listed.{conditions_listed}
use Rattle.enc_types.specs.Rules.{conditions_rules}
use Rattle.enc_types.proofs.conditions.+condition.Given as goal

abbrev pub invariant-of_conditions-loop-condition : goal.invariant-of_conditions-loop-condition
invariant-of_conditions-loop-condition l =
    l.rules ++ conditions_rules (conditions_listed (drop l.condition-index l.conditions)) ≡ l.initial.rules ++ conditions_rules (conditions_listed l.conditions)
