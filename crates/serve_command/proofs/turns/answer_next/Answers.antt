-- What is no message to the server is no request.
use Rattle.std.proofs.Common.{refl}
use Rattle.serve_command.proofs.Turning.{refused_so}
use Rattle.serve_command.proofs.turns.answer_next.Goals as goal

pub returns-in-Bad-clause-turns : goal.returns-in-Bad-clause-turns
returns-in-Bad-clause-turns g c = let s = c.in-Bad.ensures in (s.0, refused_so c.args.feed.now.way c.args.feed.now.held c.requires.way s.1, refl)
