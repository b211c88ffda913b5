-- So much was taken, and its requests were answered.
use Rattle.std.proofs.Common.{◌≡◌}
use Rattle.serve_command.proofs.Pieces.{Going}
use Rattle.serve_command.proofs.inputs.serve_input.Given as goal

abbrev pub invariant-pieces : goal.invariant-pieces
invariant-pieces g l = let A = g.A.Answering in record {
  goes : Going A.answers l.left l.feed (g.S.Source.seen l.fn.input).content (g.S.Source.seen l.input).content
      (A.seen l.fn.answering l.fn.device (g.W.Sink.seen l.fn.out).content) (A.seen l.answering l.device (g.W.Sink.seen l.out).content);
  ready : A.is_ready (A.seen l.answering l.device (g.W.Sink.seen l.out).content);
  names : A.names l.device ≡ A.names l.fn.device;
  takes : (g.S.Source.seen l.input).faults ≡ (g.S.Source.seen l.fn.input).faults;
  counts : A.failed l.device (g.W.Sink.seen l.out).faults ≡ A.failed l.fn.device (g.W.Sink.seen l.fn.out).faults;
}

abbrev pub decreases-pieces : goal.decreases-pieces
decreases-pieces g l = l.left
