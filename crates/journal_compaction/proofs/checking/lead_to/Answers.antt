-- They were served, and their world compared.
use Rattle.journal_compaction.proofs.Leading.{leads}
use Rattle.journal_compaction.proofs.checking.lead_to.Goals as goal

pub returns-in-Served : goal.returns-in-Served
returns-in-Served c =
    leads c.same_worlds.result c.args.records.now c.new-fresh.result c.serve_again.new.server c.args.server.now
    _ _ c.same_worlds.ensures c.shared_world.ensures c.shared_world-in-Served.ensures c.new-fresh.ensures
    c.in-Served.ensures
