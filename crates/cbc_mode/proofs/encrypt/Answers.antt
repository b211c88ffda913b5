use Rattle.std.proofs.Common.{arith, ap, ◌∙◌, List, ℕ}
use Rattle.std.proofs.lemmas.List.{length-append}
use Rattle.aes_block.specs.Aes.{encryption}
use Rattle.cbc_mode.proofs.Chaining.{IsChainedBelow-more, IsChainedBelow-last, cbc-cut}
use Rattle.cbc_mode.proofs.encrypt.Goals as goal

pub loop-block-preserved : goal.loop-block-preserved
loop-block-preserved c =
    rw c.in_ok-extend_from_slice.ensures.items
    (IsChainedBelow-more _ _ _ _ _ _ _ c.loop-block.invariant c.loop-block-test.true
    (c.encrypt-previous.ensures ∙ ap (λ (mixed : List ℕ). encryption c.args.key.now mixed) c.sum.ensures) (omega arith))

pub returns-clause-value : goal.returns-clause-value
returns-clause-value c =
    rw c.in_ok-extend_from_slice-2.ensures.items
    (IsChainedBelow-last _ _ _ _ _ _ _ _ c.loop-block.invariant (omega arith)
    (c.encrypt-last.ensures ∙ ap (λ (mixed : List ℕ). encryption c.args.key.now mixed) c.sum-2.ensures)
    ∙ cbc-cut _ _ _ _ _ _ c.as_chunks.ensures.front c.as_chunks.ensures.back c.padded_block.ensures)

pub returns-clause-len : goal.returns-clause-len
returns-clause-len c =
    rw c.in_ok-extend_from_slice-2.ensures.items (omega (arith, length-append c.loop-block.ciphertext.items c.encrypt-last.result))
