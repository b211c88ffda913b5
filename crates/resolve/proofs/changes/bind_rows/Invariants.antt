-- Those bound so far stand before the others.
use Rattle.std.proofs.Common.{◌≡◌, drop, map}
use Rattle.ae_base.specs.Results.{each}
use Rattle.expression_binding.proofs.Interface.{onto}
use Rattle.sql_tree.specs.Bound as bound
use Rattle.sql_tree.specs.Statements as tree
use Rattle.resolve.specs.Changes.{bind_row}
use Rattle.resolve.proofs.changes.bind_rows.Given as goal

abbrev pub invariant-loop-row : goal.invariant-loop-row
invariant-loop-row l =
    each (bind_row l.declarations) (map tree.row_of l.rows)
    ≡ onto (map bound.row_of l.list) (each (bind_row l.declarations) (map tree.row_of (drop l.row-index l.rows)))
