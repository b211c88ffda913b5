-- By what was found.
use Rattle.journal_command.proofs.WholeRuns.{serves_journal}
use Rattle.journal_command.proofs.commands.serve_mounted.Goals as goal

pub returns-in-Ready-clause-content : goal.returns-in-Ready-clause-content
returns-in-Ready-clause-content g c =
    serves_journal c.requests_may_be_asked.ensures c.in-Ready.journal (g.D.Disk.seen c.args.disk.now).content (g.D.Disk.seen c.mount.new.disk).content c.in-Ready.ensures.call.content
    (g.S.Source.seen c.args.input.now).content (g.S.Source.seen c.serve_found.new.input).content
    (g.W.Sink.seen c.args.out.now).content (g.W.Sink.seen c.serve_found.new.out).content (g.D.Disk.seen c.serve_found.new.disk).content
    c.serve_found.result c.serve_found.ensures.serves
