-- The next row.
use Rattle.std.proofs.Common.{length, ap, arith}
use Rattle.indexed_tables.proofs.Exchanging.{numbers_more, rows_more}
use Rattle.indexed_tables.proofs.tables.append_each.Goals as goal

pub loop-row-preserved : goal.loop-row-preserved
loop-row-preserved g c =
    let rest = c.loop-row.row-iterator.rest.items in
    let more = c.next.new.self.rest.items in
    let is = c.in-Some.ensures.steps.0 in
    let old = c.loop-row.stored in
    let new = c.append.new.self in
    let h = c.loop-row.invariant in
    record {
      so_far = rows_more rest more c.in-Some.row is old.rows new.rows _ c.append.ensures.rows h.so_far;
      numbers = numbers_more rest more c.in-Some.row is old.numbers new.numbers _ old.next new.next c.append.ensures.numbers c.append.ensures.next h.numbers;
      room = omega (arith, h.room, ap length is, c.append.ensures.spare);
    }
