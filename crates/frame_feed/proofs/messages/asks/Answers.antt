-- What spells no request spells no message to the server.
use Rattle.frame_feed.proofs.Refusals.{refused_asks}
use Rattle.frame_feed.proofs.messages.asks.Goals as goal

pub returns-in-Bad : goal.returns-in-Bad
returns-in-Bad c = refused_asks c.args.bytes.now c.in-Bad.ensures.cases
