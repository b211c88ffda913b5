-- What is there, with what the others add, is the whole.
use Rattle.std.proofs.Common.{◌≡◌, ◌++◌, drop}
use Rattle.sql_tree.specs.Listed.{conditions_listed}
use Rattle.semantic_checks.specs.Clashes.{conditions_clashes}
use Rattle.semantic_checks.specs.Types.{types_seen}
use Rattle.semantic_checks.proofs.clashes.+condition_clashes.Given as goal

abbrev pub invariant-conditions_clashes-loop-condition : goal.invariant-conditions_clashes-loop-condition
invariant-conditions_clashes-loop-condition l =
    l.found ++ conditions_clashes (types_seen l.types) (conditions_listed (drop l.condition-index l.conditions))
    ≡ l.fn.found ++ conditions_clashes (types_seen l.types) (conditions_listed l.conditions)
