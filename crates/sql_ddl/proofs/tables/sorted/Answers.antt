-- No parts are left.
use Rattle.std.proofs.Common.{◌≡◌, [], length, sym, ◌∙◌, ap, arith}
use Rattle.std.proofs.lemmas.List.{nil_from_length}
use Rattle.sql_ddl.proofs.Sorting.{sorted_with, sort_end}
use Rattle.sql_ddl.proofs.tables.sorted.Goals as goal

pub returns : goal.returns
returns c =
    let left = c.loop-part.part-iterator.rest in
    let some : length left.items ≡ 0 = omega (arith, left.ok.0, c.in-None.ensures.steps.0) in
    let none : left.items ≡ [] = nil_from_length left.items some in
    sym (sort_end c.loop-part.columns c.loop-part.uniques) ∙ ap (sorted_with c.loop-part.columns c.loop-part.uniques) (sym none) ∙ c.loop-part.invariant
