-- Rules without a typing have one that doesn't hold under what was found.
use Rattle.std.proofs.Common.{◌≡◌, List, true, false, subst, sym, ◌∙◌}
use Rattle.enc_types.specs.Clash.{IsChain}
use Rattle.enc_types.specs.declared.rules.Rule.{Rule}
use Rattle.inference.proofs.Inferring.{chain_found, typed_found}
use Rattle.inference.proofs.infer.chain_of.Goals as goal

pub returns-in-Some : goal.returns-in-Some
returns-in-Some c =
    let P : List Rule → Type 0 = IsChain c.args.sites.now.params.now c.args.sites.now.columns.now c.args.rules.now in
    subst P (sym (c.from_vec.ensures ∙ c.in_ok-chain_through-in-Some.ensures))
    (chain_found c.args.sites.now.params.now c.args.sites.now.columns.now c.args.rules.now c.in_ok-reach.reach
    c.in_ok-reach.ensures.reached c.in_ok-reach.ensures.settled c.in-Some.rule c.in-Some.ensures.among c.in-Some.ensures.broken)

pub returns : goal.returns
returns c =
    let f : true ≡ false = typed_found c.args.sites.now.params.now c.args.sites.now.columns.now c.args.rules.now
    c.in_ok-reach.reach c.in_ok-reach.ensures.reached c.in-None.ensures.broken ∙ c.requires in absurd cc
