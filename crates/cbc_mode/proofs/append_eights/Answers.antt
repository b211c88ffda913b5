use Rattle.std.proofs.Common.{arith, refl, rules}
use Rattle.cbc_mode.proofs.Unchaining.{IsAppended-eight, IsAppended-eights, IsAppended-none}
use Rattle.cbc_mode.proofs.append_eights.Goals as goal

pub loop-eight-init : goal.loop-eight-init
loop-eight-init c = IsAppended-none _ _ _

pub loop-eight-preserved : goal.loop-eight-preserved
loop-eight-preserved c =
    rw c.in_ok-extend_from_slice.ensures.items
    (IsAppended-eight _ _ _ _ _ _ _ _ _ _ _ c.loop-eight.invariant c.loop-eight-test.true refl (search rules) refl
    (rw c.decryptor-decryptor.ensures at c.unchained8-plain.ensures.value) c.as_flattened.ensures.value
    (rw c.decryptor-decryptor.ensures at c.unchained8-plain.ensures.undone))

pub returns-clause-ahead : goal.returns-clause-ahead
returns-clause-ahead c = (IsAppended-eights c.args.key.now c.args.iv c.args.eights.now c.loop-eight.eight-index _ _ _ c.loop-eight.invariant (omega arith)).ahead

pub returns-clause-undone : goal.returns-clause-undone
returns-clause-undone c = (IsAppended-eights c.args.key.now c.args.iv c.args.eights.now c.loop-eight.eight-index _ _ _ c.loop-eight.invariant (omega arith)).undone
