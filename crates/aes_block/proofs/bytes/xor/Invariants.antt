use Rattle.aes_block.proofs.Xoring.{IsXoredBelow}
use Rattle.aes_block.proofs.bytes.xor.Given as goal

abbrev pub invariant-loop-i : goal.invariant-loop-i
invariant-loop-i g l = IsXoredBelow l.a l.b l.i l.mixed
