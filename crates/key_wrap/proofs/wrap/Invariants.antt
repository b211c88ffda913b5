use Rattle.std.proofs.Common.{◌≡◌}
use Rattle.key_wrap.specs.Wrap.{wrap_rounds}
use Rattle.key_wrap.proofs.wrap.Given as goal

abbrev pub invariant-loop-j : goal.invariant-loop-j
invariant-loop-j l = l.registers ≡ wrap_rounds l.kek l.j l.initial.registers
