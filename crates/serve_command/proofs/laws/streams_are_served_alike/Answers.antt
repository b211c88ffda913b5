use Rattle.serve_command.proofs.Streams.{streams_served_alike}
use Rattle.serve_command.proofs.laws.streams_are_served_alike.Goals as goal

pub returns : goal.returns
returns c = streams_served_alike c.served_alike.ensures c.requests_are_served_alike.ensures c.replies_are_carried_alike.ensures
