use Rattle.std.proofs.Common.{◌≡◌, ◌-◌}
use Rattle.key_wrap.specs.Wrap.{wrap_steps}
use Rattle.key_wrap.proofs.wrap_round.Given as goal

abbrev pub invariant-loop-i : goal.invariant-loop-i
invariant-loop-i l = l.registers ≡ wrap_steps l.kek l.j (l.i - 1) l.initial.registers
