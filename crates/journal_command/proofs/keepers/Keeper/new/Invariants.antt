-- So many sessions hold nothing.
use Rattle.std.proofs.Common.{◌≡◌, replicate}
use Rattle.journal_command.specs.Keeping.{no_frames}
use Rattle.journal_command.proofs.keepers.Keeper.new.Given as goal

abbrev pub invariant-loop : goal.invariant-loop
invariant-loop l = l.sessions.items ≡ replicate l.counter no_frames
