-- What is there, with what the others add, is the whole.
use Rattle.std.proofs.Common.{◌≡◌, ◌++◌, drop, map}
use Rattle.std.specs.List.{flat_map}
use Rattle.sql_tree.specs.Operands.{operand_of}
use Rattle.semantic_checks.specs.Clashes.{operand_clashes}
use Rattle.semantic_checks.specs.Types.{types_seen}
use Rattle.semantic_checks.proofs.clashes.all_clashes.Given as goal

abbrev pub invariant-loop-operand : goal.invariant-loop-operand
invariant-loop-operand l =
    l.found ++ flat_map (operand_clashes (types_seen l.types)) (map operand_of (drop l.operand-index l.operands))
    ≡ l.fn.found ++ flat_map (operand_clashes (types_seen l.types)) (map operand_of l.operands)
