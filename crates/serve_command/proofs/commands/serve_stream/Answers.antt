-- What the server put for the requests of the input; and of an input that is told, what was put is of its frames within the limit.
use Rattle.std.proofs.Common.{sym, ◌∙◌}
use Rattle.serve_command.specs.Servers.{ServerView}
use Rattle.serve_command.proofs.Exactly.{exactly}
use Rattle.serve_command.proofs.Serving.{read_failed, stream_of, write_failed}
use Rattle.serve_command.proofs.commands.serve_stream.Goals as goal

pub returns-clause-content : goal.returns-clause-content
returns-clause-content g c =
    let first : ServerView = record { state = c.new-server.result; out = (g.W.Sink.seen c.args.out.now).content } in
    let last : ServerView = record { state = c.serve_input-ending.new.answering; out = (g.W.Sink.seen c.serve_input-ending.new.out).content } in
    stream_of c.requests_are_serial.ensures c.serve_input-ending.result c.from.result _ _ first last c.from.ensures c.new-server.ensures c.serve_input-ending.ensures.serves

pub returns-clause-exact : goal.returns-clause-exact
returns-clause-exact g c =
    let first : ServerView = record { state = c.new-server.result; out = (g.W.Sink.seen c.args.out.now).content } in
    let last : ServerView = record { state = c.serve_input-ending.new.answering; out = (g.W.Sink.seen c.serve_input-ending.new.out).content } in
    let serves = stream_of c.requests_are_serial.ensures c.serve_input-ending.result c.from.result _ _ first last c.from.ensures c.new-server.ensures c.serve_input-ending.ensures.serves in
    exactly c.one_reading.ensures.requests c.streams_are_read_once.ensures.requests c.frames_are_read_back.ensures.requests _ _ _ _ _ serves

pub returns-clause-read : goal.returns-clause-read
returns-clause-read g c = λ e. c.serve_input-ending.ensures.read (read_failed c.serve_input-ending.result (sym c.from.ensures ∙ e))

pub returns-clause-write : goal.returns-clause-write
returns-clause-write g c = λ e. write_failed c.serve_input-ending.result _ _ (sym c.from.ensures ∙ e) c.serve_input-ending.ensures.counts
