-- The requests so far were answered.
use Rattle.std.proofs.Common.{◌≡◌, ◌<◌, ◌^◌, ℕ, List, length}
use Rattle.wire_frames.specs.declared.decoding.Way.TheVariants.{ToServer}
use Rattle.serve_command.specs.Turns.{Stands}
use Rattle.serve_command.proofs.turns.answer_held.Given as goal

abbrev pub invariant-requests : goal.invariant-requests
invariant-requests g l = let A = g.A.Answering in record {
  way : l.feed.way ≡ ToServer;
  stands : (taken : List ℕ) (first : A.View) → length taken < 2 ^ 64
      → Stands A.answers taken l.fn.feed first (A.seen l.fn.answering l.fn.device (g.W.Sink.seen l.fn.out).content)
      → Stands A.answers taken l.feed first (A.seen l.answering l.device (g.W.Sink.seen l.out).content);
  ready : A.is_ready (A.seen l.answering l.device (g.W.Sink.seen l.out).content);
  names : A.names l.device ≡ A.names l.fn.device;
  counts : A.failed l.device (g.W.Sink.seen l.out).faults ≡ A.failed l.fn.device (g.W.Sink.seen l.fn.out).faults;
}

abbrev pub decreases-requests : goal.decreases-requests
decreases-requests g l = length l.feed.held
