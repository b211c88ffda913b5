use Rattle.std.proofs.Common.{◌≡◌, ◌<◌, ℕ, List, [], ◌∷◌, length, slice_index, slice_index_or, ap, sym, ◌∙◌, arith}
use Rattle.std.proofs.lemmas.List.{get_or_default}
use Rattle.aes_block.specs.Planes.{bit, block_in}
use Rattle.aes_block.proofs.Positions.{at_eight}
use Rattle.aes_block.proofs.Turned.{block_in-bits}
use Rattle.aes_block.proofs.turning.blocks_of.Goals as goal

pub returns : goal.returns
returns c =
    let all : length c.flipped.result ≡ 8 = omega arith in
    let turned = λ (j : ℕ) (low : j < 8) (d block : List ℕ) (long : length block ≡ 16) (bytes : (i : ℕ) → slice_index block i < 256)
    (rows : (r column k : ℕ) → r < 4 → column < 4 → bit block column r k ≡ bit (slice_index_or c.flipped.result j d) r column k).
    sym (block_in-bits c.args.planes j block long bytes (λ r column k in_row in_column in_byte.
    sym (rows r column k in_row in_column
    ∙ ap (λ (p : List ℕ). bit p r column k) (get_or_default c.flipped.result j d [] (omega (arith, all, low)))
    ∙ c.flipped.ensures r column k j in_byte low))) in
    at_eight (λ j. slice_index_or (c.block_of.result ∷ c.block_of-2.result ∷ c.block_of-3.result ∷ c.block_of-4.result
    ∷ c.block_of-5.result ∷ c.block_of-6.result ∷ c.block_of-7.result ∷ c.block_of-8.result ∷ []) j [] ≡ block_in c.args.planes j)
    (turned 0 (omega arith) c.index-flipped-0.result c.block_of.result c.block_of.ensures.long c.block_of.ensures.bytes c.block_of.ensures.rows)
    (turned 1 (omega arith) c.index-flipped-1.result c.block_of-2.result c.block_of-2.ensures.long c.block_of-2.ensures.bytes c.block_of-2.ensures.rows)
    (turned 2 (omega arith) c.index-flipped-2.result c.block_of-3.result c.block_of-3.ensures.long c.block_of-3.ensures.bytes c.block_of-3.ensures.rows)
    (turned 3 (omega arith) c.index-flipped-3.result c.block_of-4.result c.block_of-4.ensures.long c.block_of-4.ensures.bytes c.block_of-4.ensures.rows)
    (turned 4 (omega arith) c.index-flipped-4.result c.block_of-5.result c.block_of-5.ensures.long c.block_of-5.ensures.bytes c.block_of-5.ensures.rows)
    (turned 5 (omega arith) c.index-flipped-5.result c.block_of-6.result c.block_of-6.ensures.long c.block_of-6.ensures.bytes c.block_of-6.ensures.rows)
    (turned 6 (omega arith) c.index-flipped-6.result c.block_of-7.result c.block_of-7.ensures.long c.block_of-7.ensures.bytes c.block_of-7.ensures.rows)
    (turned 7 (omega arith) c.index-flipped-7.result c.block_of-8.result c.block_of-8.ensures.long c.block_of-8.ensures.bytes c.block_of-8.ensures.rows)
