use Rattle.std.proofs.Common.{arith, ap, ◌∙◌, List, ℕ}
use Rattle.aes_block.specs.Bytes.{bytes_xor}
use Rattle.aes_block.proofs.Xoring.{IsXoredBelow-more, IsXoredBelow-all, xored-xored}
use Rattle.aes_block.proofs.bytes.xor.Goals as goal

pub loop-i-preserved : goal.loop-i-preserved
loop-i-preserved g c = IsXoredBelow-more _ _ _ _ c.loop-i.invariant (omega arith) (omega arith)

pub returns-clause-value : goal.returns-clause-value
returns-clause-value g c = IsXoredBelow-all _ _ _ _ c.loop-i.invariant (omega arith) (omega arith)

pub returns-clause-undoes : goal.returns-clause-undoes
returns-clause-undoes g c =
    ap (λ (xs : List ℕ). bytes_xor xs c.args.b.now) (IsXoredBelow-all _ _ _ _ c.loop-i.invariant (omega arith) (omega arith)) ∙ xored-xored _ _ (omega arith)
