-- The end of a list.
pub use Rattle.sql_grammar.proofs.Interface.{goes_end}
