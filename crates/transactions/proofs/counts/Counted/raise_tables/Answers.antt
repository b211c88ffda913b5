-- One count more is raised.
use Rattle.transactions.proofs.Taking.{further_next, raised_next}
use Rattle.transactions.proofs.counts.Counted.raise_tables.Goals as goal

pub raise_table-requires : goal.raise_table-requires
raise_table-requires g c = further_next c.args.self.now c.args.names.now c.loop-name.self c.loop-name.name-index c.name-item.result c.loop-name.invariant c.loop-name-test.true c.name-item.is

pub loop-name-preserved : goal.loop-name-preserved
loop-name-preserved g c =
    raised_next c.args.self.now c.args.names.now c.loop-name.self c.loop-name.name-index c.name-item.result
    c.loop-name.invariant c.loop-name-test.true c.name-item.is c.raise_table.new.self c.raise_table.ensures
