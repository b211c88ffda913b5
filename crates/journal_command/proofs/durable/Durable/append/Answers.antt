-- The record is added, where there is one.
use Rattle.std.proofs.Common.{ℕ, ap, subst}
use Rattle.std.specs.Prelude.{option_to_list}
use Rattle.journal_command.specs.Durable.{AppendsEntry, DurableState}
use Rattle.journal_command.proofs.Appending.{appends_none, appends_some}
use Rattle.journal_command.proofs.durable.Durable.append.Goals as goal

pub returns-in-Some-clause-appended : goal.returns-in-Some-clause-appended
returns-in-Some-clause-appended g c =
    let gate = rw c.as_slice.ensures at c.append.ensures.gate in
    let content = rw c.as_slice.ensures at c.append.ensures.call.content in
    let full = rw c.as_slice.ensures at c.append.ensures.full in
    subst (λ (n : ℕ). AppendsEntry c.append.result n c.append.new.self.gate (option_to_list c.args.entry.now) (g.D.Disk.seen c.args.disk.now).content (g.D.Disk.seen c.append.new.disk).content)
    (ap (λ (d : DurableState). d.journal.gate) c.self.view_is)
    (appends_some c.append.result c.self.inside.journal.gate c.append.new.self.gate c.args.entry.now c.in-Some.entry _ _ c.in-Some.is gate full content)

pub returns-in-None-clause-appended : goal.returns-in-None-clause-appended
returns-in-None-clause-appended g c = appends_none c.args.self.now.journal.gate c.args.entry.now _ c.in-None.is
