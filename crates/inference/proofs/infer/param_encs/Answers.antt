-- The next parameter stands behind those that are there.
use Rattle.std.proofs.Common.{ap, ◌∙◌, ◌++◌, ◌∷◌, []}
use Rattle.inference.specs.Reached.{typing_of}
use Rattle.inference.proofs.Inferring.{encs_more}
use Rattle.inference.proofs.infer.param_encs.Goals as goal

pub loop-place-preserved : goal.loop-place-preserved
loop-place-preserved c =
    encs_more (typing_of c.args.sites.now.columns.now c.args.reach.now) c.args.sites.now.params.now _ c.loop-place.encs c.push.new.self c.loop-place.place c.loop-place-test.true c.loop-place.invariant
    (c.in_ok-push.ensures.ok ∙ ap (λ z. c.loop-place.encs ++ z ∷ []) c.enc_of.ensures)
