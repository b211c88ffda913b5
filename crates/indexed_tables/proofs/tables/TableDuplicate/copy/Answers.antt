-- The copied rows have their numbers, and are distinct.
use Rattle.indexed_tables.proofs.tables.TableDuplicate.copy.Goals as goal

pub invariant_of-result : goal.invariant_of-result
invariant_of-result g c =
    let rows = c.in_ok-copy.ensures in
    let new = c.in_ok-copied.ensures in
    record {
      indexed = rw (rows.rows, rows.numbers) (new.indexed c.self.inside.rows.numbers c.self.inside.rows.rows (rw c.deref.ensures.value c.self.invariant.indexed));
      distinct = rw (new.keys, c.deref.ensures.value, rows.rows) c.self.invariant.distinct;
    }
