-- What is there, with what the others add, is the whole.
use Rattle.std.proofs.Common.{◌≡◌, ◌++◌, drop, map}
use Rattle.std.specs.List.{flat_map}
use Rattle.sql_tree.specs.Operands.{operand_of}
use Rattle.semantic_checks.specs.Clashes.{listed_clash}
use Rattle.semantic_checks.specs.Types.{types_seen}
use Rattle.semantic_checks.proofs.clashes.in_clashes.Given as goal

abbrev pub invariant-loop-right : goal.invariant-loop-right
invariant-loop-right l =
    l.found ++ flat_map (listed_clash (types_seen l.types) l.at (operand_of l.left)) (map operand_of (drop l.right-index l.list))
    ≡ l.fn.found ++ flat_map (listed_clash (types_seen l.types) l.at (operand_of l.left)) (map operand_of l.list)
