-- What crates above may cite of the proofs of this one. The rest is free to change.

-- What is read is what is spelled, for each way of putting readers together.
pub use Rattle.sql_grammar.proofs.Agreement.{pairs}
-- Definitions of keys, columns and tables: their readers are the grammar's.
pub use Rattle.sql_grammar.proofs.Definitions.{column_setting_agrees, master_setting_agrees}
pub use Rattle.sql_grammar.proofs.Definitions.{table_part_agrees, wrapped_setting_agrees}
-- Readers at any depth have a token at least.
pub use Rattle.sql_grammar.proofs.Depths.{and_shortens, or_shortens, signed_shortens}
-- A loop that reads things one after another.
pub use Rattle.sql_grammar.proofs.Going.{Goes, behind_comma_shortens, goes_end, goes_more}
pub use Rattle.sql_grammar.proofs.Going.{goes_nowhere, shortens}
-- Operands and tests: their readers are the grammar's.
pub use Rattle.sql_grammar.proofs.Operands.{column_ref_agrees, operand_agrees}
-- The smallest readers and spellings: one token, parentheses, lists.
pub use Rattle.sql_grammar.proofs.Pieces.{name_agrees, placed_name_agrees}
-- The statements: their readers are the grammar's.
pub use Rattle.sql_grammar.proofs.Statements.{assignment_agrees, item_agrees, join_agrees}
pub use Rattle.sql_grammar.proofs.Statements.{order_key_agrees, row_agrees}
-- What some lists of keywords and symbols say of the next token, and readers at a depth.
pub use Rattle.sql_grammar.proofs.Chosen.{any_kind, inner_in_is, inner_parens_is, operand_in_is}
pub use Rattle.sql_grammar.proofs.Chosen.{operand_parens_is}
