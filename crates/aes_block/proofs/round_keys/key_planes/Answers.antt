use Rattle.std.proofs.Common.{◌≡◌, ◌∙◌, [], ◌∷◌}
use Rattle.aes_block.specs.Planes.{bit, plane}
use Rattle.aes_block.proofs.Positions.{at_eight}
use Rattle.aes_block.proofs.Turned.{block_in-bits}
use Rattle.aes_block.proofs.round_keys.key_planes.Goals as goal

pub returns : goal.returns
returns c j low =
    block_in-bits
    (c.spread.result ∷ c.spread-2.result ∷ c.spread-3.result ∷ c.spread-4.result ∷ c.spread-5.result ∷ c.spread-6.result ∷ c.spread-7.result ∷ c.spread-8.result ∷ [])
    j c.args.key c.rows_of-rows.ensures.long c.rows_of-rows.ensures.bytes (λ r column k row col in_byte.
    at_eight (λ k. bit
    (plane (c.spread.result ∷ c.spread-2.result ∷ c.spread-3.result ∷ c.spread-4.result ∷ c.spread-5.result
    ∷ c.spread-6.result ∷ c.spread-7.result ∷ c.spread-8.result ∷ []) k) r column j ≡ bit c.args.key column r k)
    (c.spread.ensures r column j row col low ∙ c.rows_of-rows.ensures.rows r column 0 row col)
    (c.spread-2.ensures r column j row col low ∙ c.rows_of-rows.ensures.rows r column 1 row col)
    (c.spread-3.ensures r column j row col low ∙ c.rows_of-rows.ensures.rows r column 2 row col)
    (c.spread-4.ensures r column j row col low ∙ c.rows_of-rows.ensures.rows r column 3 row col)
    (c.spread-5.ensures r column j row col low ∙ c.rows_of-rows.ensures.rows r column 4 row col)
    (c.spread-6.ensures r column j row col low ∙ c.rows_of-rows.ensures.rows r column 5 row col)
    (c.spread-7.ensures r column j row col low ∙ c.rows_of-rows.ensures.rows r column 6 row col)
    (c.spread-8.ensures r column j row col low ∙ c.rows_of-rows.ensures.rows r column 7 row col)
    k in_byte)
