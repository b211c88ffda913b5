use Rattle.std.proofs.Common.{length, ap, arith}
use Rattle.std.proofs.lemmas.List.{length-replicate}
use Rattle.journal_command.specs.Keeping.{no_frames}
use Rattle.journal_command.proofs.keepers.Keeper.new.Goals as goal

pub invariant_of-result : goal.invariant_of-result
invariant_of-result c = omega (arith, ap length c.loop.invariant, length-replicate c.loop.counter no_frames, c.loop-test.false, c.loop.auto.counter-end)
