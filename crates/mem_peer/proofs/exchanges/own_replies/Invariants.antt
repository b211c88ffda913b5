-- The copies so far are the first replies.
use Rattle.std.proofs.Common.{◌≡◌, take}
use Rattle.mem_peer.proofs.exchanges.own_replies.Given as goal

abbrev pub invariant-loop-reply : goal.invariant-loop-reply
invariant-loop-reply l = l.copies ≡ take l.reply-index l.replies
