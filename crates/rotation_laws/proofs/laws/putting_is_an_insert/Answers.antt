use Rattle.rotation_laws.proofs.Putting.{put}
use Rattle.rotation_laws.proofs.laws.putting_is_an_insert.Goals as goal

pub returns : goal.returns
returns c = put c.reads_the_grammar.ensures
