-- The tables so far are in scope.
use Rattle.std.proofs.Common.{◌≡◌, drop, map}
use Rattle.expression_binding.specs.Scopes.{scope_of, with_sources}
use Rattle.resolve.specs.Tables.{all_sources}
use Rattle.expression_binding.specs.Seen.{scope_seen}
use Rattle.resolve.specs.Seen.{joined_seen, sources_seen}
use Rattle.resolve.proofs.queries.whole_scope.Given as goal

abbrev pub invariant-loop-join : goal.invariant-loop-join
invariant-loop-join l =
    with_sources (scope_seen l.scope) (map (λ join. join.source) (map joined_seen (drop l.join-index l.join-items))) ≡ scope_of (all_sources (sources_seen l.sources))
