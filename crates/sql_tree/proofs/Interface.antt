-- What crates above may cite of the proofs of this one. The rest is free to change.

-- Sums and junctions as they lie in memory.
pub use Rattle.sql_tree.proofs.Trees.{condition_of-AllOf, condition_of-AnyOf, operand_of-Sum}
