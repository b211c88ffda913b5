-- No rows are distinct.
use Rattle.indexed_tables.proofs.Keeping.{distinct_none}
use Rattle.indexed_tables.proofs.tables.Table.new.Goals as goal

pub invariant_of-result : goal.invariant_of-result
invariant_of-result g c = record { indexed = rw c.new.ensures c.in_ok-indexes_on.ensures.indexed; distinct = rw c.new.ensures (distinct_none _) }
