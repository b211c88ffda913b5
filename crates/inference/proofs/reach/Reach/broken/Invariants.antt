use Rattle.std.proofs.Common.{◌≡◌, drop}
use Rattle.std.specs.List.{list_all}
use Rattle.enc_types.specs.Typing.{holds}
use Rattle.inference.specs.Reached.{typing_of}
use Rattle.inference.proofs.reach.Reach.broken.Given as goal

abbrev pub invariant-loop-rule : goal.invariant-loop-rule
invariant-loop-rule l =
    list_all (holds l.sites.params.now l.sites.columns.now (typing_of l.sites.columns.now l.self))
    (drop l.rule-index l.rules) ≡ list_all (holds l.sites.params.now l.sites.columns.now (typing_of l.sites.columns.now l.self)) l.rules
