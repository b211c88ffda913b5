use Rattle.first_seen.proofs.Numbering.{told_alike}
use Rattle.first_seen.proofs.laws.listed_alike_are_renamed.Goals as goal

pub returns : goal.returns
returns c = λ k tells ps qs e. told_alike k tells ps qs e
