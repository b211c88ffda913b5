-- What is there, with what the others add, is the whole.
use Rattle.std.proofs.Common.{◌≡◌, ◌++◌, drop, map}
use Rattle.std.specs.List.{flat_map}
use Rattle.sql_tree.specs.Bound as bound
use Rattle.semantic_checks.specs.Clashes.{row_clashes}
use Rattle.semantic_checks.specs.Types.{types_seen}
use Rattle.semantic_checks.proofs.clashes.rows_clashes.Given as goal

abbrev pub invariant-loop-row : goal.invariant-loop-row
invariant-loop-row l =
    l.found ++ flat_map (row_clashes (types_seen l.types) l.named) (map bound.row_of (drop l.row-index l.rows))
    ≡ l.fn.found ++ flat_map (row_clashes (types_seen l.types) l.named) (map bound.row_of l.rows)
