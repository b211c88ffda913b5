-- Nothing is found as yet.
use Rattle.inference.proofs.reach.Reach.over.Goals as goal

pub passes-init : goal.passes-init
passes-init c = c.new-reach.ensures c.args.sites.now.params.now c.args.sites.now.columns.now c.args.rules.now
