-- The piece was taken, or there was no memory for it.
use Rattle.std.proofs.Common.{◌++◌, sym, subst}
use Rattle.frame_feed.specs.Feeding.{Feeding, with_piece}
use Rattle.serve_command.specs.Turns.{Stands}
use Rattle.serve_command.proofs.Turning.{answers_some, stands_fed}
use Rattle.serve_command.proofs.inputs.answer_piece.Goals as goal

pub returns-in-Ok-clause-drains : goal.returns-in-Ok-clause-drains
returns-in-Ok-clause-drains g c =
    let fed = rw c.as_slice.ensures at c.in-Ok.ensures.fed in
    λ taken first short s.
    c.answer_held.ensures.drains (taken ++ c.args.piece.now) first short
    (subst (λ (f : Feeding). Stands g.A.Answering.answers (taken ++ c.args.piece.now) f first (g.A.Answering.seen c.args.answering.now c.args.device.now (g.W.Sink.seen c.args.out.now).content)) (sym fed)
    (stands_fed g.A.Answering.answers taken c.args.piece.now c.args.feed.now first _ s))

pub returns-in-Err-clause-drains : goal.returns-in-Err-clause-drains
returns-in-Err-clause-drains g c = λ taken first short s.
    answers_some g.A.Answering.answers (taken ++ c.args.piece.now) (with_piece c.args.feed.now c.args.piece.now) first _
    (stands_fed g.A.Answering.answers taken c.args.piece.now c.args.feed.now first _ s)
