use Rattle.sql_grammar.proofs.Whole.{one_tree}
use Rattle.sql_grammar.proofs.laws.spells_one_statement.Goals as goal

pub returns : goal.returns
returns c = one_tree
