use Rattle.std.proofs.Common.{take}
use Rattle.cbc_mode.proofs.Unchaining.{IsAppended}
use Rattle.cbc_mode.proofs.append_blocks.Given as goal

abbrev pub invariant-loop-block : goal.invariant-loop-block
invariant-loop-block l = IsAppended l.key l.fn.iv (take l.block-index l.blocks) l.previous l.fn.plaintext.items l.plaintext.items
