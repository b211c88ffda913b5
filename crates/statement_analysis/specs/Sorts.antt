-- What sort a text is.
use Rattle.std.specs.Prelude.{ℕ, List, Result, Ok, Err, encode_utf8_all}
use Rattle.ae_base.specs.declared.faults.SqlFault.{SqlFault}
use Rattle.sql_tree.specs.Statements as tree
use Rattle.sql_tree.specs.declared.statements.Definition.{Definition}
use Rattle.sql_tree.specs.declared.statements.Definition.TheVariants as definition
use Rattle.sql_tree.specs.declared.statements.TransactionControl.{TransactionControl}
use Rattle.sql_tree.specs.declared.statements.TransactionControl.TheVariants as control
use Rattle.sql_grammar.specs.Texts.{statement_in}
use Rattle.statement_analysis.specs.declared.sorts.Sort.{Sort}
use Rattle.statement_analysis.specs.declared.sorts.Sort.TheVariants.{Reads, Changes, Defines, Begins, Commits, RollsBack, NoStatement}

abbrev pub sort_of_control : TransactionControl → Sort
sort_of_control control.Begin = Begins
sort_of_control control.Commit = Commits
sort_of_control control.Rollback = RollsBack

-- REPLACE BY is a change, which a transaction may make
abbrev pub sort_of_definition : Definition → Sort
sort_of_definition (definition.ReplaceTable old new) = Changes
sort_of_definition other = Defines

abbrev pub sort_of_statement : tree.Statement → Sort
sort_of_statement (tree.Definition d) = sort_of_definition d
sort_of_statement (tree.Insert table columns rows) = Changes
sort_of_statement (tree.Update table assignments filter) = Changes
sort_of_statement (tree.Delete table filter) = Changes
sort_of_statement (tree.Select query) = Reads
sort_of_statement (tree.Control control) = sort_of_control control

-- a text that doesn't parse is no statement
abbrev pub sort_of_parsed : Result tree.Statement SqlFault → Sort
sort_of_parsed (Ok statement) = sort_of_statement statement
sort_of_parsed (Err fault) = NoStatement

abbrev pub sort_of : List ℕ → Sort
sort_of text = sort_of_parsed (statement_in (encode_utf8_all text))
