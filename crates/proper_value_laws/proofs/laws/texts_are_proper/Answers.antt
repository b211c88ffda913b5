use Rattle.proper_value_laws.proofs.TextsMean.{texts_proper}
use Rattle.proper_value_laws.proofs.laws.texts_are_proper.Goals as goal

pub returns : goal.returns
returns c = texts_proper c.reads_the_grammar.ensures
