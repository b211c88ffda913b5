-- The values so far, with those that are left, are the whole.
use Rattle.std.proofs.Common.{◌≡◌, drop, map}
use Rattle.sql_tree.specs.Operands.{operand_of}
use Rattle.row_changes.specs.Rows.{values_into}
use Rattle.operators.proofs.Interface.{collected}
use Rattle.row_changes.proofs.inserts.values_into.Given as goal

abbrev pub invariant-loop-i : goal.invariant-loop-i
invariant-loop-i g l =
    values_into l.columns l.row l.params l.named (map operand_of l.values) ≡ collected l.given (values_into l.columns l.row l.params (drop l.i l.named) (map operand_of (drop l.i l.values)))
