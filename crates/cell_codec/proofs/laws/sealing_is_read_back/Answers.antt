-- By the laws of cipher block chaining.
use Rattle.cell_codec.proofs.ReadBack.{are_chained, sealed-read_back, sealed_det-read_back}
use Rattle.cell_codec.proofs.laws.sealing_is_read_back.Goals as goal

pub returns-clause-randomized : goal.returns-clause-randomized
returns-clause-randomized c = let law = c.each_undoes_the_other.ensures in sealed-read_back (are_chained law.decrypts law.len law.ciphertext)

pub returns-clause-deterministic : goal.returns-clause-deterministic
returns-clause-deterministic c = let law = c.each_undoes_the_other.ensures in sealed_det-read_back (are_chained law.decrypts law.len law.ciphertext)
