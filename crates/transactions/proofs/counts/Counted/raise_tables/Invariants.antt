-- What is left to be raised.
use Rattle.std.proofs.Common.{drop}
use Rattle.transactions.proofs.Taking.{IsRaising}
use Rattle.transactions.proofs.counts.Counted.raise_tables.Given as goal

abbrev pub invariant-loop-name : goal.invariant-loop-name
invariant-loop-name g l = IsRaising l.initial.self l.names (drop l.name-index l.names) l.self
