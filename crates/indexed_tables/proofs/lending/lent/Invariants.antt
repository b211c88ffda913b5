-- The pages so far are lent.
use Rattle.std.proofs.Common.{◌≡◌, map, take}
use Rattle.row_store.specs.Paged.{flat}
use Rattle.indexed_tables.proofs.lending.lent.Given as goal

abbrev pub invariant-loop-page : goal.invariant-loop-page
invariant-loop-page g l = map (λ row. row.now) l.rows ≡ flat (take l.page-index l.pages)
