use Rattle.std.proofs.Common.{refl, arith}
use Rattle.cbc_mode.proofs.Unchaining.{AreUndone-from, IsUnchainedBelow-all, IsUnchainedBelow-more}
use Rattle.cbc_mode.proofs.unchained8.Goals as goal

pub loop-i-init : goal.loop-i-init
loop-i-init c = record { long = omega (arith, c.told-blocks); so_far = refl }

pub loop-i-preserved : goal.loop-i-preserved
loop-i-preserved c =
    IsUnchainedBelow-more _ _ _ _ _ _ _ _ _ c.loop-i.invariant (omega (arith, c.told-blocks)) c.decrypt8-decrypted.ensures.value c.sum.ensures refl

pub returns-clause-value : goal.returns-clause-value
returns-clause-value c = IsUnchainedBelow-all _ _ _ _ _ _ c.loop-i.invariant (omega (arith, c.told-blocks))

pub returns-clause-undone : goal.returns-clause-undone
returns-clause-undone c = AreUndone-from _ _ _ c.decrypt8-decrypted.ensures.value c.decrypt8-decrypted.ensures.undoes
