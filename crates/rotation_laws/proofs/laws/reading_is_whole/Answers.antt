use Rattle.rotation_laws.proofs.Meaning.{read_whole}
use Rattle.rotation_laws.proofs.laws.reading_is_whole.Goals as goal

pub returns : goal.returns
returns c = read_whole
