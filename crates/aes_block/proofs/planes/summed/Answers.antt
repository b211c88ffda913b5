use Rattle.std.proofs.Common.{arith, ◌≡◌, ℕ, ◌+◌, ◌%◌, [], ◌∷◌, ◌∙◌}
use Rattle.aes_block.specs.Planes.{bit, byte, plane}
use Rattle.aes_block.proofs.ByteBits.{bit-lt, byte_of-same, byte_of-xor}
use Rattle.aes_block.proofs.Items.{item}
use Rattle.aes_block.proofs.Positions.{at_eight}
use Rattle.aes_block.proofs.planes.summed.Goals as goal

pub returns : goal.returns
unfolding byte
returns c r column j =
    let a = λ (k : ℕ). bit (plane c.args.a k) r column j in
    let b = λ (k : ℕ). bit (plane c.args.b.now k) r column j in
    byte_of-same _ (λ k. (a k + b k) % 2)
    (at_eight
    (λ k. bit
    (plane (c.bitxor.result ∷ c.bitxor-2.result ∷ c.bitxor-3.result ∷ c.bitxor-4.result ∷ c.bitxor-5.result
    ∷ c.bitxor-6.result ∷ c.bitxor-7.result ∷ c.bitxor-8.result ∷ []) k) r column j ≡ (a k + b k) % 2)
    (rw (← item c.args.a 0 8 c.index-a-0.result (omega arith) (omega arith), ← item c.args.b.now 0 8 c.index-b-0.result (omega arith) (omega arith)) (c.bitxor.ensures r column j))
    (rw (← item c.args.a 1 8 c.index-a-1.result (omega arith) (omega arith), ← item c.args.b.now 1 8 c.index-b-1.result (omega arith) (omega arith)) (c.bitxor-2.ensures r column j))
    (rw (← item c.args.a 2 8 c.index-a-2.result (omega arith) (omega arith), ← item c.args.b.now 2 8 c.index-b-2.result (omega arith) (omega arith)) (c.bitxor-3.ensures r column j))
    (rw (← item c.args.a 3 8 c.index-a-3.result (omega arith) (omega arith), ← item c.args.b.now 3 8 c.index-b-3.result (omega arith) (omega arith)) (c.bitxor-4.ensures r column j))
    (rw (← item c.args.a 4 8 c.index-a-4.result (omega arith) (omega arith), ← item c.args.b.now 4 8 c.index-b-4.result (omega arith) (omega arith)) (c.bitxor-5.ensures r column j))
    (rw (← item c.args.a 5 8 c.index-a-5.result (omega arith) (omega arith), ← item c.args.b.now 5 8 c.index-b-5.result (omega arith) (omega arith)) (c.bitxor-6.ensures r column j))
    (rw (← item c.args.a 6 8 c.index-a-6.result (omega arith) (omega arith), ← item c.args.b.now 6 8 c.index-b-6.result (omega arith) (omega arith)) (c.bitxor-7.ensures r column j))
    (rw (← item c.args.a 7 8 c.index-a-7.result (omega arith) (omega arith), ← item c.args.b.now 7 8 c.index-b-7.result (omega arith) (omega arith)) (c.bitxor-8.ensures r column j)))
    ∙ byte_of-xor a b (λ k. bit-lt (plane c.args.a k) r column j) (λ k. bit-lt (plane c.args.b.now k) r column j)
