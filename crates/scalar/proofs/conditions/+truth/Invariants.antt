-- The truth so far, with that of the conditions that are left, is the whole.
use Rattle.std.proofs.Common.{◌≡◌, drop}
use Rattle.scalar.specs.Eval.{conjunction, disjunction, truth_all, truth_any}
use Rattle.sql_tree.specs.Listed.{conditions_listed}
use Rattle.scalar.proofs.Junctions.{joined}
use Rattle.scalar.proofs.conditions.+truth.Given as goal

abbrev pub invariant-all_of-loop-condition : goal.invariant-all_of-loop-condition
invariant-all_of-loop-condition g l =
    truth_all l.row l.params (conditions_listed l.conditions) ≡ joined conjunction l.all (truth_all l.row l.params (conditions_listed (drop l.condition-index l.conditions)))

abbrev pub invariant-any_of-loop-condition : goal.invariant-any_of-loop-condition
invariant-any_of-loop-condition g l =
    truth_any l.row l.params (conditions_listed l.conditions) ≡ joined disjunction l.any (truth_any l.row l.params (conditions_listed (drop l.condition-index l.conditions)))
