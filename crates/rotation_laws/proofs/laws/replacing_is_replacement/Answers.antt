use Rattle.rotation_laws.proofs.Meaning.{replaced}
use Rattle.rotation_laws.proofs.laws.replacing_is_replacement.Goals as goal

pub returns : goal.returns
returns c = replaced
