-- Empty slots change nothing.
use Rattle.std.proofs.Common.{◌≡◌, ◌≤◌, length}
use Rattle.transactions.specs.Slots.{slots_of}
use Rattle.transactions.proofs.slots.extend.Given as goal

abbrev pub invariant-loop : goal.invariant-loop
invariant-loop g l = record { same : slots_of l.held.items ≡ slots_of l.initial.held.items; count : length l.held.items ≡ l.counter; few : length l.initial.held.items ≤ 64 }
