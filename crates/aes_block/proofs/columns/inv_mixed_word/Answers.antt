use Rattle.aes_block.proofs.States.{inv_mixed_word-made}
use Rattle.aes_block.proofs.columns.inv_mixed_word.Goals as goal

pub returns : goal.returns
returns c = inv_mixed_word-made c.args.word _ _ c.substituted_column-substituted.ensures c.inv_mixed_column.ensures
