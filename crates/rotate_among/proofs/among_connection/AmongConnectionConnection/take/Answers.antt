-- It is taken.
use Rattle.std.proofs.Common.{refl}
use Rattle.run_command.proofs.Interface.{takes_one}
use Rattle.rotate_among.proofs.among_connection.AmongConnectionConnection.take.Goals as goal

pub returns : goal.returns
returns g c = λ reply first. takes_one _ _ _ _ _ _ refl refl first.first c.pop_front.ensures.items _ c.args.self.now.waiting.now.replies.ok.0 c.pop_front.ensures.variant refl
