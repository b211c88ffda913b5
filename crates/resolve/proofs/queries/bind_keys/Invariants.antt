-- Those bound so far stand before the others.
use Rattle.std.proofs.Common.{◌≡◌, drop}
use Rattle.ae_base.specs.Results.{each}
use Rattle.expression_binding.proofs.Interface.{onto}
use Rattle.resolve.specs.Queries.{bind_key}
use Rattle.expression_binding.specs.Seen.{scope_seen}
use Rattle.resolve.proofs.queries.bind_keys.Given as goal

abbrev pub invariant-loop-key : goal.invariant-loop-key
invariant-loop-key l =
    each (bind_key (scope_seen l.scope)) l.keys
    ≡ onto l.list (each (bind_key (scope_seen l.scope)) (drop l.key-index l.keys))
