-- The first conflict is among the rest.
use Rattle.std.proofs.Common.{◌≡◌, drop}
use Rattle.transactions.specs.Stores.{conflict}
use Rattle.transactions.proofs.transactions.conflict.Given as goal

abbrev pub invariant-loop-u : goal.invariant-loop-u
invariant-loop-u g l = conflict l.shared (drop l.u-index l.used) ≡ conflict l.shared l.used
