use Rattle.std.proofs.Common.{[], ◌∷◌, length, map}
use Rattle.sql_tree.specs.Statements.{join_of}
use Rattle.sql_tree.specs.declared.lexemes.Keyword.TheVariants as keyword
use Rattle.sql_grammar.specs.Readers as terminal
use Rattle.sql_grammar.specs.Parse.{join}
use Rattle.sql_grammar.proofs.Interface.{Goes}
use Rattle.sql_parse.proofs.queries.joins.Given as goal

abbrev pub invariant-joins : goal.invariant-joins
invariant-joins l = Goes (terminal.Word keyword.Inner ∷ terminal.Word keyword.Join ∷ []) join l.fn.tokens (map join_of l.joins) l.tokens

abbrev pub decreases-joins : goal.decreases-joins
decreases-joins l = length l.tokens
