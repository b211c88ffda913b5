-- By the laws of cipher block chaining.
use Rattle.cell_codec.proofs.ReadBack.{are_chained, sealed-cell, sealed-shape}
use Rattle.cell_codec.proofs.laws.sealing_makes_cells.Goals as goal

pub returns-clause-cell : goal.returns-clause-cell
returns-clause-cell c = let law = c.each_undoes_the_other.ensures in sealed-cell (are_chained law.decrypts law.len law.ciphertext)

pub returns-clause-shape : goal.returns-clause-shape
returns-clause-shape c = let law = c.each_undoes_the_other.ensures in sealed-shape (are_chained law.decrypts law.len law.ciphertext)
