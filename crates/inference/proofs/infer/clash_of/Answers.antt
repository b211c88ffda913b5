-- The rules up to the last that have a typing, and one more.
use Rattle.std.proofs.Common.{Some, ap, sym, ◌∙◌}
use Rattle.enc_types.proofs.Interface.{none_typed}
use Rattle.inference.proofs.Inferring.{some_rules, clash_found, is_clash}
use Rattle.inference.proofs.infer.clash_of.Goals as goal

pub last_typed-requires-clause-order : goal.last_typed-requires-clause-order
last_typed-requires-clause-order c = some_rules c.args.sites.now.params.now c.args.sites.now.columns.now c.args.rules.now c.requires

pub last_typed-requires-clause-typed : goal.last_typed-requires-clause-typed
last_typed-requires-clause-typed c = none_typed c.args.sites.now.params.now c.args.sites.now.columns.now

pub returns-clause-first : goal.returns-clause-first
returns-clause-first c =
    clash_found c.args.sites.now.params.now c.args.sites.now.columns.now c.args.rules.now c.in_ok-last.last _ c.in_ok-last.ensures ∙ ap Some (sym c.at.ensures)

pub returns-clause-chained : goal.returns-clause-chained
returns-clause-chained c =
    is_clash c.args.sites.now.params.now c.args.sites.now.columns.now c.args.rules.now c.in_ok-last.last _ c.in_ok-last.ensures c.at.result c.in_ok-chain.chain c.at.ensures c.in_ok-chain.ensures
