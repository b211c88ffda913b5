-- Its record was added, and the replies were put; or nothing was done yet.
use Rattle.std.proofs.Common.{sym, subst}
use Rattle.std.specs.Prelude.{option_to_list}
use Rattle.journal_core.specs.States.{JournalState}
use Rattle.serve_command.specs.ServeAll.{answer_frames}
use Rattle.wire_encoding.specs.Packing.{packed}
use Rattle.journal_command.specs.Durable.{PutsBy}
use Rattle.journal_command.specs.Keeping.{entries_of, keeping}
use Rattle.journal_command.specs.Stopping.{StopsBy, outside}
use Rattle.journal_command.specs.declared.endings.Stop.TheVariants as stops
use Rattle.journal_command.proofs.Appending.{answers_so, unanswered}
use Rattle.journal_command.proofs.durable.DurableAnswering.answer.Goals as goal

pub returns-in-Ok-clause-answered : goal.returns-in-Ok-clause-answered
returns-in-Ok-clause-answered g c =
    let result = c.append_and_put.result in
    let new = c.append_and_put.new.self in
    let replies = c.in-Ok.answer.replies in
    let entry = c.in-Ok.answer.entry in
    let disk = (g.D.Disk.seen c.args.disk.now).content in
    let out = (g.W.Sink.seen c.args.out.now).content in
    let disk_after = (g.D.Disk.seen c.append_and_put.new.disk).content in
    let out_after = (g.W.Sink.seen c.append_and_put.new.out).content in
    let put = subst (λ (j : JournalState). PutsBy result (packed c.args.asked.now.version replies) (option_to_list entry) (outside j.gate disk out) (outside new.journal.gate disk_after out_after))
    c.in-Ok.ensures.journal c.append_and_put.ensures.put in
    answers_so result c.args.asked.now c.serve.new.self (record { durable = c.args.self.now; disk = disk; out = out })
    (record { durable = new; disk = disk_after; out = out_after }) replies entry c.in-Ok.ensures.served c.append_and_put.ensures.kept put

pub returns-in-Err-clause-answered : goal.returns-in-Err-clause-answered
returns-in-Err-clause-answered g c = λ held e.
    let frames = answer_frames c.args.self.now.state c.args.asked.now in
    let more = entries_of (keeping c.args.self.now.state held c.args.asked.now).records in
    let disk = (g.D.Disk.seen c.args.disk.now).content in
    let out = (g.W.Sink.seen c.args.out.now).content in
    subst (λ (j : JournalState). StopsBy stops.OutOfMemory frames more (outside c.args.self.now.journal.gate disk out) (outside j.gate disk out)) (sym c.serve.ensures.journal)
    (unanswered frames more (outside c.args.self.now.journal.gate disk out))
