-- The rows before a page are some of all.
use Rattle.std.proofs.Common.{◌≡◌, ◌+◌, ◌<◌, length, arith}
use Rattle.row_store.specs.Paged.{values}
use Rattle.row_store.proofs.Numbering.{before_less}
use Rattle.row_store.proofs.Owned.{value_at, values_length}
use Rattle.row_store.proofs.Seeking.{start_next}
use Rattle.row_store.proofs.numbers.rows_before.Goals as goal

pub overflow_add-before : goal.overflow_add-before
overflow_add-before c =
    let pages = c.args.pages.now in
    let it = c.index-pages-i.result in
    let lt : c.loop-i.i < length (values pages) = omega (arith, c.loop-i-test.true, c.requires.page, values_length pages) in
    let next = start_next (values pages) c.loop-i.i it.value lt (value_at pages c.loop-i.i it c.index-pages-i.is) in
    let less = before_less (c.loop-i.i + 1) (values pages) in
    omega (arith, next, less, c.loop-i.invariant, c.len-before.ensures.len, c.requires.few)

pub loop-i-preserved : goal.loop-i-preserved
loop-i-preserved c =
    let pages = c.args.pages.now in
    let it = c.index-pages-i.result in
    let lt : c.loop-i.i < length (values pages) = omega (arith, c.loop-i-test.true, c.requires.page, values_length pages) in
    let next = start_next (values pages) c.loop-i.i it.value lt (value_at pages c.loop-i.i it c.index-pages-i.is) in
    omega (arith, next, c.loop-i.invariant, c.len-before.ensures.len)
