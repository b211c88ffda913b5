use Rattle.std.proofs.Common.{rules}
use Rattle.std.proofs.lemmas.Nat.{le_bytes_4}
use Rattle.aes_block.specs.Columns.{word_of}
use Rattle.aes_block.proofs.columns.column.Goals as goal

pub returns : goal.returns
unfolding word_of
returns c = le_bytes_4 c.args.word _ (search rules) (search rules) c.from_le_bytes.ensures
