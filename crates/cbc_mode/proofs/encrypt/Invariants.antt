use Rattle.cbc_mode.proofs.Chaining.{IsChainedBelow}
use Rattle.cbc_mode.proofs.encrypt.Given as goal

abbrev pub invariant-loop-block : goal.invariant-loop-block
invariant-loop-block l = IsChainedBelow l.key l.iv l.blocks l.block-index l.previous l.ciphertext.items
