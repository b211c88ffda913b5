-- All operands so far are known.
use Rattle.std.proofs.Common.{◌≡◌, drop, map}
use Rattle.std.specs.List.{list_all}
use Rattle.sql_tree.specs.Operands.{operand_of}
use Rattle.lookups.specs.Lookups.{is_known}
use Rattle.lookups.proofs.finding.all_known.Given as goal

abbrev pub invariant-loop-operand : goal.invariant-loop-operand
invariant-loop-operand l = list_all (is_known l.width) (map operand_of l.operands) ≡ list_all (is_known l.width) (map operand_of (drop l.operand-index l.operands))
