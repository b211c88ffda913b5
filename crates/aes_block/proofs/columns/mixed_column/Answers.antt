use Rattle.aes_block.proofs.Entries.{word_of-mixed}
use Rattle.aes_block.proofs.columns.mixed_column.Goals as goal

pub returns : goal.returns
returns c =
    rw (← c.row_0.ensures.value, ← c.row_1.ensures.value, ← c.row_2.ensures.value, ← c.row_3.ensures.value)
    (word_of-mixed _ _ _ _ _ c.row_0.ensures.below c.row_1.ensures.below c.row_2.ensures.below c.row_3.ensures.below)
