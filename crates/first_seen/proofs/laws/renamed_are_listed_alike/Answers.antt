use Rattle.first_seen.specs.Laws.{Pairs}
use Rattle.first_seen.proofs.Numbering.{listed_alike}
use Rattle.first_seen.proofs.laws.renamed_are_listed_alike.Goals as goal

pub returns : goal.returns
returns c = λ k knows pairs renames ps qs r. listed_alike k knows (Pairs pairs) renames ps qs r
