-- All of the operands so far do.
use Rattle.std.proofs.Common.{◌≡◌, drop, map}
use Rattle.std.specs.List.{list_all}
use Rattle.sql_tree.specs.Operands.{operand_of}
use Rattle.lookups.specs.Reach.{operand_stays}
use Rattle.lookups.proofs.reach.list_stays.Given as goal

abbrev pub invariant-loop-operand : goal.invariant-loop-operand
invariant-loop-operand l = list_all (operand_stays l.width) (map operand_of l.operands) ≡ list_all (operand_stays l.width) (map operand_of (drop l.operand-index l.operands))
