-- One piece more, or the end.
use Rattle.std.proofs.Common.{◌∙◌, ◌≤◌, ◌≡◌, length, refl, arith}
use Rattle.serve_command.proofs.Pieces.{counts_whole, ends_failed, ends_past, ends_refused, ends_stopped, ends_unheld, ends_unread, ends_whole, goes_first, goes_on}
use Rattle.serve_command.proofs.inputs.serve_input.Goals as goal

pub pieces-init : goal.pieces-init
pieces-init g c = record {
  goes = goes_first g.A.Answering.answers c.new-feed.result (g.S.Source.seen c.args.input.now).content
      (g.A.Answering.seen c.args.answering.now c.args.device.now (g.W.Sink.seen c.args.out.now).content) c.new-feed.ensures;
  ready = c.requires;
  names = refl;
  takes = refl;
  counts = refl;
}

pub returns-then-left-eq0-clause-serves : goal.returns-then-left-eq0-clause-serves
returns-then-left-eq0-clause-serves g c =
    let p = c.in-Bytes.ensures.piece in
    let one : length c.in-Bytes.piece ≡ 1 = omega (arith, p.0, p.1) in
    ends_past g.A.Answering.answers g.A.Answering.stops _ _ _ _ _ _ c.pieces.invariant.goes c.in-Bytes.piece
    (g.S.Source.seen c.take.new.self).content c.in-Bytes.ensures.call.content one c.if-left-eq0.true

pub returns-in-Refused-clause-serves : goal.returns-in-Refused-clause-serves
returns-in-Refused-clause-serves g c =
    let p = c.in-Bytes.ensures.piece in
    let fits : length c.in-Bytes.piece ≤ c.pieces.left = omega (arith, p.1) in
    ends_refused g.A.Answering.answers g.A.Answering.stops _ _ _ _ _ _ c.pieces.invariant.goes c.in-Bytes.piece
    (g.S.Source.seen c.take.new.self).content c.in-Bytes.ensures.call.content fits c.in-Refused.place _ c.in-Refused.ensures.drains

pub returns-in-OutOfMemory-answer_piece-clause-serves :
    goal.returns-in-OutOfMemory-answer_piece-clause-serves
returns-in-OutOfMemory-answer_piece-clause-serves g c =
    let p = c.in-Bytes.ensures.piece in
    let fits : length c.in-Bytes.piece ≤ c.pieces.left = omega (arith, p.1) in
    ends_unread g.A.Answering.answers g.A.Answering.stops _ _ _ _ _ _ c.pieces.invariant.goes c.in-Bytes.piece
    (g.S.Source.seen c.take.new.self).content c.in-Bytes.ensures.call.content fits _ c.in-OutOfMemory-answer_piece.ensures.drains

pub returns-in-Stopped-clause-serves : goal.returns-in-Stopped-clause-serves
returns-in-Stopped-clause-serves g c =
    let p = c.in-Bytes.ensures.piece in
    let fits : length c.in-Bytes.piece ≤ c.pieces.left = omega (arith, p.1) in
    ends_stopped g.A.Answering.answers g.A.Answering.stops _ _ _ _ _ _ c.pieces.invariant.goes c.in-Bytes.piece
    (g.S.Source.seen c.take.new.self).content c.in-Bytes.ensures.call.content fits c.in-Stopped.stop _ c.in-Stopped.ensures.drains

pub pieces-preserved : goal.pieces-preserved
pieces-preserved g c =
    let p = c.in-Bytes.ensures.piece in
    let fits : length c.in-Bytes.piece ≤ c.pieces.left = omega (arith, p.1) in
    let l = c.len-left.ensures in
    record {
      goes = goes_on g.A.Answering.answers g.A.Answering.stops _ _ _ _ _ _ c.pieces.invariant.goes c.in-Bytes.piece
          (g.S.Source.seen c.take.new.self).content c.in-Bytes.ensures.call.content fits _ c.answer_piece.new.feed _ (omega (arith, fits, l)) c.in-Waits.ensures.drains;
      ready = c.in-Waits.ensures.ready refl;
      names = c.in-Waits.ensures.same ∙ c.pieces.invariant.names;
      takes = c.in-Bytes.ensures.call.counts ∙ c.pieces.invariant.takes;
      counts = c.in-Waits.ensures.counts ∙ c.pieces.invariant.counts;
    }

pub returns-in-End-clause-serves : goal.returns-in-End-clause-serves
returns-in-End-clause-serves g c = ends_whole g.A.Answering.answers g.A.Answering.stops _ _ _ _ _ _ c.pieces.invariant.goes
    c.at_end.result (g.S.Source.seen c.take.new.self).content c.in-End.ensures.call.content c.at_end.ensures

pub returns-in-Failed-clause-serves : goal.returns-in-Failed-clause-serves
returns-in-Failed-clause-serves g c =
    ends_failed g.A.Answering.answers g.A.Answering.stops _ _ _ _ _ _ c.pieces.invariant.goes (g.S.Source.seen c.take.new.self).content c.in-Failed.ensures.call.content

pub returns-in-OutOfMemory-clause-serves : goal.returns-in-OutOfMemory-clause-serves
returns-in-OutOfMemory-clause-serves g c = ends_unheld g.A.Answering.answers g.A.Answering.stops _ _ _ _ _ _
    c.pieces.invariant.goes (g.S.Source.seen c.take.new.self).content c.in-OutOfMemory.ensures.call.content

pub returns-in-End-clause-counts : goal.returns-in-End-clause-counts
returns-in-End-clause-counts g c = counts_whole g.A.Answering.counts c.at_end.result _ _ _ c.at_end.ensures c.pieces.invariant.counts
