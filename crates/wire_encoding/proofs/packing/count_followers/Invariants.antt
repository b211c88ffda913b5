-- The frame takes the replies so far.
use Rattle.std.proofs.Common.{◌≡◌, ◌≤◌}
use Rattle.wire_encoding.specs.Packing.{most_body_bytes}
use Rattle.wire_encoding.proofs.Sharing.{Taken}
use Rattle.wire_encoding.proofs.packing.count_followers.Given as goal

abbrev pub invariant-loop-reply : goal.invariant-loop-reply
invariant-loop-reply l = record {
  taken : Taken l.first l.replies l.reply-index l.size;
  count : l.count ≡ l.reply-index;
  within : l.size ≤ most_body_bytes;
}
