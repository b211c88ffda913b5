use Rattle.sql_grammar.proofs.Whole.{tree_is}
use Rattle.sql_grammar.proofs.laws.reads_the_grammar.Goals as goal

pub returns : goal.returns
returns c = tree_is
