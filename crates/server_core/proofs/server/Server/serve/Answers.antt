use Rattle.server_core.proofs.Alike.{call_alike}
use Rattle.server_core.proofs.server.Server.serve.Goals as goal

pub returns-clause-alike : goal.returns-clause-alike
returns-clause-alike c =
    rw (← c.self.view_is) (call_alike c.requests_are_served_alike.ensures c.serve.result c.args.request.now c.self.inside.store c.serve.new.store c.serve.ensures.served)
