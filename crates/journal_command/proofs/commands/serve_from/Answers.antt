-- A server that holds nothing yet.
use Rattle.std.proofs.Common.{sym, ap, subst, inl, ◌∙◌}
use Rattle.journal_command.specs.Durable.{DurableState, DurableView}
use Rattle.journal_command.specs.Running.{ServesPieces}
use Rattle.journal_command.specs.Stopping.{outside}
use Rattle.journal_command.proofs.Pieces.{disk_failed, pieces_of, read_failed, write_failed}
use Rattle.journal_command.proofs.Serving.{sound_first}
use Rattle.journal_command.proofs.commands.serve_from.Goals as goal

pub serve_input-ending-requires : goal.serve_input-ending-requires
serve_input-ending-requires g c = sound_first c.in-Ok.durable c.args.server c.args.journal (g.D.Disk.seen c.args.disk.now).content c.in-Ok.ensures c.requires.ready c.requires.mounted

pub returns-in-Ok-clause-serves : goal.returns-in-Ok-clause-serves
returns-in-Ok-clause-serves g c =
    let new = c.in-Ok.ensures in
    let after = c.serve_input-ending.new.answering in
    let source = (g.S.Source.seen c.args.input.now).content in
    let left = (g.S.Source.seen c.serve_input-ending.new.input).content in
    let disk = (g.D.Disk.seen c.args.disk.now).content in
    let disk_after = (g.D.Disk.seen c.serve_input-ending.new.device).content in
    let out = (g.W.Sink.seen c.args.out.now).content in
    let out_after = (g.W.Sink.seen c.serve_input-ending.new.out).content in
    let first : DurableView = record { durable = c.in-Ok.durable; disk = disk; out = out } in
    let last : DurableView = record { durable = after; disk = disk_after; out = out_after } in
    let s = pieces_of c.requests_are_serial_from.ensures c.serve_input-ending.result c.from.result source left first last c.from.ensures
    (ap (λ (d : DurableState). d.held) new) c.serve_input-ending.ensures.serves in
    inl (after.journal.gate, subst (λ (d : DurableState). ServesPieces c.from.result d.state source left (outside d.journal.gate disk out) (outside after.journal.gate disk_after out_after)) new s)

pub returns-in-Ok-clause-read : goal.returns-in-Ok-clause-read
returns-in-Ok-clause-read g c = λ e. c.serve_input-ending.ensures.read (read_failed c.serve_input-ending.result (sym c.from.ensures ∙ e))

pub returns-in-Ok-clause-write : goal.returns-in-Ok-clause-write
returns-in-Ok-clause-write g c = λ e. write_failed c.serve_input-ending.result _ _ (sym c.from.ensures ∙ e) c.serve_input-ending.ensures.counts

pub returns-in-Ok-clause-stored : goal.returns-in-Ok-clause-stored
returns-in-Ok-clause-stored g c = λ e. disk_failed c.serve_input-ending.result _ _ (sym c.from.ensures ∙ e) c.serve_input-ending.ensures.counts
