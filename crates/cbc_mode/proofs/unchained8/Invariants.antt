use Rattle.cbc_mode.proofs.Unchaining.{IsUnchainedBelow}
use Rattle.cbc_mode.proofs.unchained8.Given as goal

abbrev pub invariant-loop-i : goal.invariant-loop-i
invariant-loop-i l = IsUnchainedBelow l.key l.previous l.blocks l.i l.added l.plain
