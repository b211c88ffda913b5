-- The next value.
use Rattle.std.proofs.Common.{◌<◌, length, map, arith}
use Rattle.sql_tree.specs.Operands.{operand_of}
use Rattle.sql_tree.specs.Placed.{IsPlaced}
use Rattle.row_changes.specs.Rows.{values_into}
use Rattle.operators.proofs.Interface.{All_there}
use Rattle.row_changes.proofs.Values.{values_more}
use Rattle.row_changes.proofs.inserts.values_into.Goals as goal

pub value_into-requires-clause-value : goal.value_into-requires-clause-value
value_into-requires-clause-value g c =
    All_there (IsPlaced (length c.args.row.now) (length c.args.params.now)) operand_of c.args.values.now c.loop-i.i c.index-values-i.result c.loop-i-test.true c.index-values-i.is c.requires.values

pub loop-i-preserved : goal.loop-i-preserved
loop-i-preserved g c =
    let count = c.requires.count in
    let ln : c.loop-i.i < length c.args.named.now = omega arith in
    rw c.in_ok-push.ensures.ok
    (values_more c.args.columns.now c.args.row.now c.args.params.now c.args.named.now c.args.values.now c.loop-i.i c.index-values-i.result ln c.loop-i-test.true c.index-values-i.is
    (values_into c.args.columns.now c.args.row.now c.args.params.now c.args.named.now (map operand_of c.args.values.now))
    c.loop-i.given c.in_ok-value_into.field-0 c.loop-i.invariant c.in_ok-value_into.ensures)
