-- Some requests were served, and the rest is left.
use Rattle.std.proofs.Common.{length}
use Rattle.journal_command.proofs.Restarting.{HasServed}
use Rattle.journal_command.proofs.restarts.serve_entry.Given as goal

abbrev pub invariant-frames : goal.invariant-frames
invariant-frames l = HasServed l.fn.server l.entry l.rest l.server

abbrev pub decreases-frames : goal.decreases-frames
decreases-frames l = length l.rest
