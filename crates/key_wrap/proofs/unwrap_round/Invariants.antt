use Rattle.std.proofs.Common.{◌≡◌, ◌-◌, List, ℕ}
use Rattle.key_wrap.specs.Wrap.{wrap_steps, unwrap_steps}
use Rattle.key_wrap.proofs.unwrap_round.Given as goal

abbrev pub invariant-loop-i : goal.invariant-loop-i
invariant-loop-i l = record {
  value : unwrap_steps l.kek l.j (l.i - 1) l.registers ≡ unwrap_steps l.kek l.j 4 l.initial.registers;
  undoes : (s : List (List ℕ)) → wrap_steps l.kek l.j (l.i - 1) s ≡ l.registers → wrap_steps l.kek l.j 4 s ≡ l.initial.registers;
}
