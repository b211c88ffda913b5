use Rattle.server_core.proofs.Readiness.{seen_catalog}
use Rattle.server_core.proofs.requests.described.Goals as goal

-- src/requests.rt:93:23
pub describe-requires : goal.describe-requires
describe-requires c = let e = c.catalog.ensures in rw e (seen_catalog c.args.store.now c.args.session c.requires)
