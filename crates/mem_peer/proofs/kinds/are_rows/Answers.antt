-- The end is tested before the rows.
use Rattle.mem_peer.proofs.ReplyKinds.{rows-then, rows-else}
use Rattle.mem_peer.proofs.kinds.are_rows.Goals as goal

pub returns-then-is_end : goal.returns-then-is_end
returns-then-is_end c =
    rows-then c.args.width c.args.replies.now c.in-Some.rows.now c.in-Some.end.now c.in-Some.ensures.cases.0 _ _ c.is_end.ensures c.if-is_end.true c.each_is_row.ensures

pub returns-else-is_end : goal.returns-else-is_end
returns-else-is_end c = rows-else c.args.width c.args.replies.now c.in-Some.rows.now c.in-Some.end.now c.in-Some.ensures.cases.0 _ c.is_end.ensures c.if-is_end.false
