-- The first tables are taken.
use Rattle.transactions.specs.Stores.{is_used}
use Rattle.transactions.proofs.Taking.{IsTaking}
use Rattle.transactions.proofs.transactions.take_over.Given as goal

abbrev pub invariant-loop-index : goal.invariant-loop-index
invariant-loop-index g l = IsTaking (is_used l.used) l.initial.shared l.initial.own l.shared l.own l.index
