-- The joins so far stand before the others, and their tables are in scope.
use Rattle.std.proofs.Common.{◌≡◌, [], ◌∷◌, drop, map}
use Rattle.sql_tree.specs.Bound as bound
use Rattle.expression_binding.specs.Scopes.{scope_of}
use Rattle.resolve.specs.Queries.{bind_joins}
use Rattle.expression_binding.specs.Seen.{scope_seen, source_seen}
use Rattle.resolve.specs.Seen.{joined_seen}
use Rattle.expression_binding.proofs.Interface.{onto}
use Rattle.resolve.proofs.queries.bind_joins.Given as goal

abbrev pub invariant-loop-join : goal.invariant-loop-join
invariant-loop-join l =
    bind_joins l.declarations (scope_of (source_seen l.fn.from ∷ [])) (map joined_seen l.joins)
    ≡ onto (map bound.join_of l.list) (bind_joins l.declarations (scope_seen l.scope) (map joined_seen (drop l.join-index l.joins)))
