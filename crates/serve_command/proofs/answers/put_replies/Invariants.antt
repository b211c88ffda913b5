-- The frames so far.
use Rattle.std.proofs.Common.{◌≡◌, ◌≤◌, ◌-◌, length, drop}
use Rattle.serve_command.proofs.Putting.{PutSoFar}
use Rattle.serve_command.proofs.answers.put_replies.Given as goal

abbrev pub invariant-frames : goal.invariant-frames
invariant-frames g l = record {
  within : l.done ≤ length l.replies;
  so_far : PutSoFar l.version l.replies (drop l.done l.replies) l.frames.items (g.W.Sink.seen l.fn.out).content (g.W.Sink.seen l.out).content;
  count : (g.W.Sink.seen l.out).faults ≡ (g.W.Sink.seen l.fn.out).faults;
  same : (g.W.Sink.seen l.out).names ≡ (g.W.Sink.seen l.fn.out).names;
}

abbrev pub decreases-frames : goal.decreases-frames
decreases-frames g l = length l.replies - l.done
