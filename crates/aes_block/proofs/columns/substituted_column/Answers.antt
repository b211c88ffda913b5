use Rattle.aes_block.proofs.Inverses.{SBOX-at}
use Rattle.aes_block.proofs.Mixing.{four_same}
use Rattle.aes_block.proofs.columns.substituted_column.Goals as goal

pub returns : goal.returns
returns c =
    rw (c.column.ensures, ← c.row_0.ensures.value, ← c.row_1.ensures.value, ← c.row_2.ensures.value, ← c.row_3.ensures.value)
    (four_same _ _ _ _ _ _ _ _ (SBOX-at _ c.row_0.ensures.below) (SBOX-at _ c.row_1.ensures.below) (SBOX-at _ c.row_2.ensures.below) (SBOX-at _ c.row_3.ensures.below))
