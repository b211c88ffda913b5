-- The numbers so far.
use Rattle.std.proofs.Common.{◌≡◌}
use Rattle.row_store.specs.Numbers.{counted}
use Rattle.row_store.proofs.numbered.Numbered.next_numbers.Given as goal

abbrev pub invariant-loop-i : goal.invariant-loop-i
invariant-loop-i g l = l.numbers.items ≡ counted l.self.next l.i
