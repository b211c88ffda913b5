-- What spells no payload spells no message to the driver.
use Rattle.frame_feed.proofs.Refusals.{refused_tells}
use Rattle.frame_feed.proofs.messages.tells.Goals as goal

pub returns-in-Bad : goal.returns-in-Bad
returns-in-Bad c = refused_tells c.args.version c.args.bytes.now c.in-Bad.ensures.cases
