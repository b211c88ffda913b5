use Rattle.enc_types.proofs.TypedLaws.{typed_as}
use Rattle.enc_types.proofs.laws.typed_statements.Goals as goal

pub returns : goal.returns
returns c = λ bound encs h. typed_as bound encs h
