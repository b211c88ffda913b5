-- What the grammar reads, by the next token.
pub use Rattle.sql_grammar.proofs.Interface.{any_kind, inner_in_is, inner_parens_is, operand_in_is, operand_parens_is}
