use Rattle.aes_block.specs.Aes.{encryption}
use Rattle.aes_block.proofs.cipher.Aes256.encrypt.Goals as goal

pub returns : goal.returns
unfolding encryption
returns c = rw (← c.self.view_is, ← c.self.invariant.1) (cc)
