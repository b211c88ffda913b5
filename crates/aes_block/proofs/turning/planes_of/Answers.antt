use Rattle.std.proofs.Common.{◌≡◌, ◌<◌, ℕ, [], ◌∷◌, length, slice_index, slice_index_or, ◌∙◌, subst, arith}
use Rattle.aes_block.specs.Planes.{bit, block_in, plane}
use Rattle.std.proofs.lemmas.List.{get_or_default}
use Rattle.aes_block.specs.Aes.{IsBlock}
use Rattle.aes_block.proofs.Blocks.{IsBlock-from_bytes}
use Rattle.aes_block.proofs.Positions.{at_eight}
use Rattle.aes_block.proofs.Turned.{block_in-bits}
use Rattle.aes_block.proofs.turning.planes_of.Goals as goal

pub returns-clause-value : goal.returns-clause-value
returns-clause-value c =
    let turned = λ (j : ℕ) (low : j < 8) (long : length (slice_index_or c.args.blocks.now j []) ≡ 16)
    (bytes : (i : ℕ) → slice_index (slice_index_or c.args.blocks.now j []) i < 256)
    (rows : (r column k : ℕ) → r < 4 → column < 4
    → bit (plane (c.rows_of.result ∷ c.rows_of-2.result ∷ c.rows_of-3.result ∷ c.rows_of-4.result ∷ c.rows_of-5.result
    ∷ c.rows_of-6.result ∷ c.rows_of-7.result ∷ c.rows_of-8.result ∷ []) j) r column k
    ≡ bit (slice_index_or c.args.blocks.now j []) column r k).
    block_in-bits c.flipped.result j (slice_index_or c.args.blocks.now j []) long bytes (λ r column k in_row in_column in_byte.
    c.flipped.ensures r column j k low in_byte ∙ rows r column k in_row in_column) in
    at_eight (λ j. block_in c.flipped.result j ≡ slice_index_or c.args.blocks.now j [])
    (turned 0 (omega arith) c.rows_of.ensures.long c.rows_of.ensures.bytes c.rows_of.ensures.rows)
    (turned 1 (omega arith) c.rows_of-2.ensures.long c.rows_of-2.ensures.bytes c.rows_of-2.ensures.rows)
    (turned 2 (omega arith) c.rows_of-3.ensures.long c.rows_of-3.ensures.bytes c.rows_of-3.ensures.rows)
    (turned 3 (omega arith) c.rows_of-4.ensures.long c.rows_of-4.ensures.bytes c.rows_of-4.ensures.rows)
    (turned 4 (omega arith) c.rows_of-5.ensures.long c.rows_of-5.ensures.bytes c.rows_of-5.ensures.rows)
    (turned 5 (omega arith) c.rows_of-6.ensures.long c.rows_of-6.ensures.bytes c.rows_of-6.ensures.rows)
    (turned 6 (omega arith) c.rows_of-7.ensures.long c.rows_of-7.ensures.bytes c.rows_of-7.ensures.rows)
    (turned 7 (omega arith) c.rows_of-8.ensures.long c.rows_of-8.ensures.bytes c.rows_of-8.ensures.rows)

pub returns-clause-are_blocks : goal.returns-clause-are_blocks
returns-clause-are_blocks c k d in_blocks =
    let blocks : (k : ℕ) → k < 8 → IsBlock (slice_index_or c.args.blocks.now k []) =
    at_eight (λ k. IsBlock (slice_index_or c.args.blocks.now k []))
    (IsBlock-from_bytes _ c.rows_of.ensures.long c.rows_of.ensures.bytes)
    (IsBlock-from_bytes _ c.rows_of-2.ensures.long c.rows_of-2.ensures.bytes)
    (IsBlock-from_bytes _ c.rows_of-3.ensures.long c.rows_of-3.ensures.bytes)
    (IsBlock-from_bytes _ c.rows_of-4.ensures.long c.rows_of-4.ensures.bytes)
    (IsBlock-from_bytes _ c.rows_of-5.ensures.long c.rows_of-5.ensures.bytes)
    (IsBlock-from_bytes _ c.rows_of-6.ensures.long c.rows_of-6.ensures.bytes)
    (IsBlock-from_bytes _ c.rows_of-7.ensures.long c.rows_of-7.ensures.bytes)
    (IsBlock-from_bytes _ c.rows_of-8.ensures.long c.rows_of-8.ensures.bytes) in
    subst IsBlock (get_or_default c.args.blocks.now k [] d in_blocks) (blocks k (omega (arith, c.told-blocks)))
