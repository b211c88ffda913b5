-- There is a typing where every rule holds under what was found.
use Rattle.inference.proofs.Inferring.{typed_found, untyped_found}
use Rattle.inference.proofs.infer.has_typing.Goals as goal

pub returns-in-Some : goal.returns-in-Some
returns-in-Some c =
    untyped_found c.args.sites.now.params.now c.args.sites.now.columns.now c.args.rules.now c.in_ok-reach.reach
    c.in_ok-reach.ensures.reached c.in_ok-reach.ensures.settled c.in-Some.field-0 c.in-Some.ensures.among c.in-Some.ensures.broken

pub returns : goal.returns
returns c = typed_found c.args.sites.now.params.now c.args.sites.now.columns.now c.args.rules.now c.in_ok-reach.reach c.in_ok-reach.ensures.reached c.in-None.ensures.broken
