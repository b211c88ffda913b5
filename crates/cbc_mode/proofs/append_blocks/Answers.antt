use Rattle.std.proofs.Common.{refl, arith}
use Rattle.cbc_mode.proofs.Unchaining.{IsAppended-block, IsAppended-blocks, IsAppended-none}
use Rattle.cbc_mode.proofs.append_blocks.Goals as goal

pub loop-block-init : goal.loop-block-init
loop-block-init c = IsAppended-none _ _ _

pub loop-block-preserved : goal.loop-block-preserved
loop-block-preserved c =
    rw c.in_ok-extend_from_slice.ensures.items
    (IsAppended-block _ _ _ _ _ _ _ _ _ _ c.loop-block.invariant c.loop-block-test.true refl
    c.decrypt-decrypted.ensures.value c.decrypt-decrypted.ensures.undoes c.sum.ensures)

pub returns-clause-ahead : goal.returns-clause-ahead
returns-clause-ahead c = (IsAppended-blocks _ _ _ _ _ _ _ c.loop-block.invariant (omega arith)).ahead

pub returns-clause-undone : goal.returns-clause-undone
returns-clause-undone c = (IsAppended-blocks _ _ _ _ _ _ _ c.loop-block.invariant (omega arith)).undone
