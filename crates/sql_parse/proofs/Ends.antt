-- The end of a list, and the fault that ends it.
pub use Rattle.sql_expressions.proofs.Interface.{goes_fails}
pub use Rattle.sql_grammar.proofs.Interface.{goes_end}
