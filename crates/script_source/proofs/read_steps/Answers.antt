-- As its bytes are read, or they weren't taken.
use Rattle.std.proofs.lemmas.Result.{err_from_is_err_and}
use Rattle.script_source.proofs.Taken.{reads_whole, unread_so}
use Rattle.script_source.proofs.read_steps.Goals as goal

pub returns : goal.returns
returns g c =
    reads_whole c.steps_in.result c.in_ok-bytes.bytes (g.S.Source.seen c.args.script.now) (g.S.Source.seen c.read_all.new.source)
    c.steps_in.ensures.read c.steps_in.ensures.whole c.in_ok-bytes.ensures.call c.steps_in.ensures.reads

pub returns-in_err-bytes : goal.returns-in_err-bytes
returns-in_err-bytes g c =
    let p = err_from_is_err_and c.from_residual.result c.from_residual.ensures.1 in
    rw (p.1, p.2) (unread_so c.in_err-bytes.field-0.0 (g.S.Source.seen c.args.script.now) (g.S.Source.seen c.read_all.new.source) c.in_err-bytes.ensures.call)
