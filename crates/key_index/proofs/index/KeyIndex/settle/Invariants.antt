-- Every key has the number that it had.
use Rattle.key_index.specs.Numbers.{HasSame}
use Rattle.key_index.proofs.index.KeyIndex.settle.Given as goal

abbrev pub invariant-loop : goal.invariant-loop
invariant-loop g l = HasSame l.fn.self l.self
