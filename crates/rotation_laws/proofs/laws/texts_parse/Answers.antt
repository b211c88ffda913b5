use Rattle.rotation_laws.proofs.Putting.{texts_parse}
use Rattle.rotation_laws.proofs.laws.texts_parse.Goals as goal

pub returns : goal.returns
returns c = texts_parse c.reads_the_grammar.ensures
