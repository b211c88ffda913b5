use Rattle.rotation_laws.proofs.Asked.{texts_mean}
use Rattle.rotation_laws.proofs.laws.rotation_texts_mean.Goals as goal

pub returns : goal.returns
returns c = texts_mean c.reads_the_grammar.ensures
