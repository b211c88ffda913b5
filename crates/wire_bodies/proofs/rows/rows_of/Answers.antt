-- Too many rows or columns, or none.
use Rattle.wire_bodies.proofs.Counted.{no_batch_of_rows, no_batch_of_columns}
use Rattle.wire_bodies.proofs.rows.rows_of.Goals as goal

pub returns-in_default : goal.returns-in_default
returns-in_default c = no_batch_of_rows c.args.bytes.now c.in_default.ensures

pub returns-in_default-count_of : goal.returns-in_default-count_of
returns-in_default-count_of c = no_batch_of_columns c.args.bytes.now c.in-Some.rows c.in-Some.rest.now c.in-Some.ensures c.in_default-count_of.ensures
