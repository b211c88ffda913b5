-- As the machine moves.
use Rattle.driver.specs.Clients.{columns_of}
use Rattle.script_run.proofs.Rotating.{stands_next}
use Rattle.script_run.proofs.rotations.next_of.Goals as goal

pub returns-clause-leads : goal.returns-clause-leads
returns-clause-leads c = λ trusted k after. stands_next c.rotations_are_next.ensures trusted c.args.rotation.now.session
    c.args.rotation.now.from c.args.rotation.now.into k _ c.args.rotation.now.sent c.next.new.self.sent
    (columns_of c.args.driver.now c.args.rotation.now.session) c.args.outcome after c.next.ensures.next
