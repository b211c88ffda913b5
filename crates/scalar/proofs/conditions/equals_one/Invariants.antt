-- The truth so far, with that of the operands that are left, is the whole.
use Rattle.std.proofs.Common.{◌≡◌, drop, map}
use Rattle.sql_tree.specs.Operands.{operand_of}
use Rattle.scalar.specs.Eval.{disjunction, in_list}
use Rattle.scalar.proofs.Junctions.{joined}
use Rattle.scalar.proofs.conditions.equals_one.Given as goal

abbrev pub invariant-loop-operand : goal.invariant-loop-operand
invariant-loop-operand g l =
    in_list l.row l.params l.value (map operand_of l.list) ≡ joined disjunction l.found (in_list l.row l.params l.value (map operand_of (drop l.operand-index l.list)))
