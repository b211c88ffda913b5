-- The tables so far stand before the others.
use Rattle.std.proofs.Common.{◌≡◌, [], ◌∷◌, drop, map}
use Rattle.sql_tree.specs.Statements.{join_of}
use Rattle.resolve.specs.Tables.{joined_from}
use Rattle.resolve.specs.Seen.{joined_seen}
use Rattle.expression_binding.proofs.Interface.{onto}
use Rattle.resolve.proofs.sources.joined_from.Given as goal

abbrev pub invariant-loop-join : goal.invariant-loop-join
invariant-loop-join l =
    joined_from l.catalog (l.first ∷ []) (map join_of l.joins)
    ≡ onto (map joined_seen l.joined) (joined_from l.catalog (map (λ name. name.now) l.given) (map join_of (drop l.join-index l.joins)))
