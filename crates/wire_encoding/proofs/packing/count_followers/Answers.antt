-- The frame takes one more row.
use Rattle.std.proofs.Common.{◌≡◌, ◌∙◌, Some, arith, sym}
use Rattle.wire_encoding.proofs.Sharing.{next_size, taken_more}
use Rattle.wire_encoding.proofs.packing.count_followers.Goals as goal

pub loop-reply-preserved : goal.loop-reply-preserved
loop-reply-preserved c =
    let first = c.args.first.now in
    let replies = c.args.replies.now in
    let i = c.loop-reply.reply-index in
    let e : next_size first replies i c.loop-reply.size c.reply-item.result ≡ Some c.in-Some.larger
    = rw (c.loop-reply.invariant.count, c.atoms-columns.ensures.atoms) at (sym c.size_with.ensures ∙ c.in-Some.is) in
    let t = taken_more first replies i c.loop-reply.size c.in-Some.larger c.reply-item.result c.loop-reply.invariant.taken c.loop-reply-test.true (sym c.reply-item.is) e in
    record { taken = t.0; count = omega (arith, c.loop-reply.invariant.count); within = omega (arith, t.1) }
