-- The least typing where every rule holds under what was found, else the first clash.
use Rattle.std.proofs.Common.{sym}
use Rattle.inference.proofs.Inferring.{are_least, untyped_found, is_clash_of}
use Rattle.inference.proofs.infer.encs_over.Goals as goal

pub returns-in-None : goal.returns-in-None
returns-in-None c =
    are_least c.args.sites.now.params.now c.args.sites.now.columns.now c.args.rules.now c.in_ok-reach.reach
    c.in_ok-reach.ensures.reached c.in_ok-param_encs-in-None.field-0 c.in-None.ensures.broken c.in_ok-param_encs-in-None.ensures

pub clash_of-requires : goal.clash_of-requires
clash_of-requires c =
    sym (untyped_found c.args.sites.now.params.now c.args.sites.now.columns.now c.args.rules.now c.in_ok-reach.reach
    c.in_ok-reach.ensures.reached c.in_ok-reach.ensures.settled c.in-Some.field-0 c.in-Some.ensures.among c.in-Some.ensures.broken)

pub returns : goal.returns
returns c =
    is_clash_of c.args.sites.now.params.now c.args.sites.now.columns.now c.args.rules.now c.in_ok-clash_of-in-Some.field-0
    (sym (untyped_found c.args.sites.now.params.now c.args.sites.now.columns.now c.args.rules.now c.in_ok-reach.reach
    c.in_ok-reach.ensures.reached c.in_ok-reach.ensures.settled c.in-Some.field-0 c.in-Some.ensures.among c.in-Some.ensures.broken))
    c.in_ok-clash_of-in-Some.ensures.first c.in_ok-clash_of-in-Some.ensures.chained
