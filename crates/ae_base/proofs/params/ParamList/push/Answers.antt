use Rattle.ae_base.proofs.NameLaws.{admitted}
use Rattle.ae_base.proofs.params.ParamList.push.Goals as goal

pub invariant_of-self-2 : goal.invariant_of-self-2
invariant_of-self-2 g c = rw c.in_ok-push.ensures.ok (admitted g.P.Named.called c.self.inside.items c.args.item c.self.invariant.1 cc)
