-- The rows that stand are distinct.
use Rattle.unique_keys.specs.Indexes.{keys_of}
use Rattle.indexed_tables.proofs.Exchanging.{distinct_standing}
use Rattle.indexed_tables.proofs.tables.Table.insert.Goals as goal

pub invariant_of-self : goal.invariant_of-self
invariant_of-self g c =
    let e = c.insert_into.ensures in
    record {
      indexed = e.indexed;
      distinct = rw (e.keys, e.rows) (distinct_standing c.insert_into.result (keys_of c.self.inside.indexes.items) c.self.inside.rows.rows c.args.rows c.self.invariant.distinct e.answer);
    }
