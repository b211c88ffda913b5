use Rattle.std.proofs.Common.{arith, ◌≡◌, ◌+◌, ◌-◌, ◌%◌, [], ◌∷◌}
use Rattle.aes_block.specs.Planes.{bit, byte, plane}
use Rattle.aes_block.proofs.ByteBits.{byte_of-same}
use Rattle.aes_block.proofs.Items.{item}
use Rattle.aes_block.proofs.Positions.{at_eight}
use Rattle.aes_block.proofs.planes.inv_shifted.Goals as goal

pub returns : goal.returns
unfolding byte
returns c r column j row col =
    byte_of-same _ _
    (at_eight
    (λ k. bit
    (plane (c.inv_shifted.result ∷ c.inv_shifted-2.result ∷ c.inv_shifted-3.result ∷ c.inv_shifted-4.result
    ∷ c.inv_shifted-5.result ∷ c.inv_shifted-6.result ∷ c.inv_shifted-7.result ∷ c.inv_shifted-8.result ∷ []) k) r column j ≡ bit (plane c.args.planes k) r ((column + 4 - r) % 4) j)
    (rw (← item c.args.planes 0 8 c.index-planes-0.result (omega arith) (omega arith)) (c.inv_shifted.ensures r column j row col))
    (rw (← item c.args.planes 1 8 c.index-planes-1.result (omega arith) (omega arith)) (c.inv_shifted-2.ensures r column j row col))
    (rw (← item c.args.planes 2 8 c.index-planes-2.result (omega arith) (omega arith)) (c.inv_shifted-3.ensures r column j row col))
    (rw (← item c.args.planes 3 8 c.index-planes-3.result (omega arith) (omega arith)) (c.inv_shifted-4.ensures r column j row col))
    (rw (← item c.args.planes 4 8 c.index-planes-4.result (omega arith) (omega arith)) (c.inv_shifted-5.ensures r column j row col))
    (rw (← item c.args.planes 5 8 c.index-planes-5.result (omega arith) (omega arith)) (c.inv_shifted-6.ensures r column j row col))
    (rw (← item c.args.planes 6 8 c.index-planes-6.result (omega arith) (omega arith)) (c.inv_shifted-7.ensures r column j row col))
    (rw (← item c.args.planes 7 8 c.index-planes-7.result (omega arith) (omega arith)) (c.inv_shifted-8.ensures r column j row col)))
