-- The pages hold what they held.
use Rattle.std.proofs.Common.{◌≡◌}
use Rattle.std.specs.Vec.{vec_capacity}
use Rattle.row_store.specs.Paged.{values}
use Rattle.row_store.proofs.tables.seal_each.Given as goal

abbrev pub invariant-loop-page : goal.invariant-loop-page
invariant-loop-page g l = record {
  values : values l.pages.items ≡ values l.fn.pages.items;
  capacity : vec_capacity l.pages ≡ vec_capacity l.fn.pages;
}
