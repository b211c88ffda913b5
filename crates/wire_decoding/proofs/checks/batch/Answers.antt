-- 1 to 4,096 rows, each of as many atoms.
use Rattle.wire_payloads.specs.Batches.{IsBatch}
use Rattle.wire_decoding.specs.Reading.{is_batch}
use Rattle.wire_decoding.proofs.RowLaws.{is_batch_from, is_batch_to}
use Rattle.wire_decoding.proofs.Tested.{tested}
use Rattle.wire_decoding.proofs.checks.batch.Goals as goal

pub returns : goal.returns
returns c = tested c.new.result is_batch IsBatch c.args.rows c.new.ensures.batch c.new.ensures.exactly (is_batch_from c.args.rows) (is_batch_to c.args.rows)
