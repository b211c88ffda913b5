-- The entries that are left have what all have.
use Rattle.std.proofs.Common.{◌≡◌, drop}
use Rattle.ae_edge.specs.Vaults.{key_at}
use Rattle.ae_edge.proofs.memory.vault.key_at.Given as goal

abbrev pub invariant-loop-other : goal.invariant-loop-other
invariant-loop-other l = key_at (drop l.other-index l.keys) l.path ≡ key_at l.keys l.path
