-- All of the conditions so far do.
use Rattle.std.proofs.Common.{◌≡◌, drop}
use Rattle.sql_tree.specs.Listed.{conditions_listed}
use Rattle.lookups.specs.Reach.{all_stay}
use Rattle.lookups.proofs.reach.+stays.Given as goal

abbrev pub invariant-all_stay-loop-condition : goal.invariant-all_stay-loop-condition
invariant-all_stay-loop-condition l = all_stay l.width (conditions_listed l.conditions) ≡ all_stay l.width (conditions_listed (drop l.condition-index l.conditions))
