use Rattle.std.proofs.Common.{◌≡◌, List, ℕ}
use Rattle.key_wrap.specs.Wrap.{wrap_rounds, unwrap_rounds}
use Rattle.key_wrap.proofs.unwrapped_registers.Given as goal

abbrev pub invariant-loop-j : goal.invariant-loop-j
invariant-loop-j l = record {
  value : unwrap_rounds l.kek l.j l.registers ≡ unwrap_rounds l.kek 6 l.initial.registers;
  undoes : (s : List (List ℕ)) → wrap_rounds l.kek l.j s ≡ l.registers → wrap_rounds l.kek 6 s ≡ l.initial.registers;
}
