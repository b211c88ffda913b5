-- The sites so far stand before the others.
use Rattle.std.proofs.Common.{◌≡◌, ◌++◌, drop, map}
use Rattle.expression_binding.specs.Scopes.{sites_of}
use Rattle.resolve.specs.Tables.{all_sources}
use Rattle.resolve.specs.Seen.{joined_seen, sources_seen}
use Rattle.resolve.proofs.statements.sites_of.Given as goal

abbrev pub invariant-loop-join : goal.invariant-loop-join
invariant-loop-join l =
    l.sites ++ sites_of (map (λ join. join.source) (map joined_seen (drop l.join-index l.join-items))) ≡ sites_of (all_sources (sources_seen l.sources))
