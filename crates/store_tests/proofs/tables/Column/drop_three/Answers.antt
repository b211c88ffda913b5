-- A row is dropped whole.
use Rattle.store_tests.proofs.Keeping.{column_dropped}
use Rattle.store_tests.proofs.tables.Column.drop_three.Goals as goal

pub invariant_of-self : goal.invariant_of-self
invariant_of-self c =
    let held = column_dropped _ c.self.inside.table c.drop_at.new.self _ c.drop_at.ensures.ok c.drop_at.ensures.err (record { key = c.self.invariant.key; narrow = c.self.invariant.narrow }) in
    record { key = held.key; narrow = held.narrow }
