-- The slots so far are empty.
use Rattle.std.proofs.Common.{◌≡◌, take, replicate, None}
use Rattle.transactions.proofs.slots.Slots.is_idle.Given as goal

abbrev pub invariant-loop-slot : goal.invariant-loop-slot
invariant-loop-slot g l = take l.slot-index l.slot-items ≡ replicate l.slot-index None
