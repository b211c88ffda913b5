use Rattle.enc_types.proofs.ColumnEncs.{typings_of_columns}
use Rattle.enc_types.proofs.laws.typings_are_of_columns.Goals as goal

pub returns : goal.returns
returns c = λ bound encs h. typings_of_columns bound encs h
