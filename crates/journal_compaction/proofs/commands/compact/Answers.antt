-- By what was found.
use Rattle.std.proofs.Common.{ℕ, subst}
use Rattle.journal_compaction.specs.Compacting.{CountsCompacted}
use Rattle.journal_compaction.proofs.Compacting.{compacts}
use Rattle.journal_compaction.proofs.Mounting.{still_untouched}
use Rattle.journal_compaction.proofs.commands.compact.Goals as goal

pub returns-in-Served-clause-content : goal.returns-in-Served-clause-content
returns-in-Served-clause-content g c = compacts c.replace.result c.in-Served.server _ _ _ _ _ c.in-Served.ensures.content c.replace.ensures.stays c.replace.ensures.writes

pub returns-in-Served-clause-untouched : goal.returns-in-Served-clause-untouched
returns-in-Served-clause-untouched g c = still_untouched c.in-Served.journal.gate _ _ _ c.find.ensures.untouched c.in-Served.ensures.readable c.replace.ensures.stays

pub returns-in-Served-clause-counts : goal.returns-in-Served-clause-counts
returns-in-Served-clause-counts g c =
    subst (λ (n : ℕ). CountsCompacted c.replace.result n (g.D.Disk.seen c.replace.new.disk).faults
    (g.E.Disk.seen c.args.new.now).faults (g.E.Disk.seen c.replace.new.new).faults) c.in-Served.ensures.counts c.replace.ensures.counts
