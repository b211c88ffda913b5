use Rattle.scalar.specs.Classes.{Listing}
use Rattle.renaming_laws.proofs.InTurn.{cells_within}
use Rattle.renaming_laws.proofs.InTurn as turns
use Rattle.renaming_laws.proofs.laws.renamed_steps_alike.Goals as goal

pub returns : goal.returns
returns c =
    λ entries world other es fs renaming typed corr h m.
    turns.steps_alike (Listing entries) renaming.one_to_one (cells_within (Listing entries) renaming.cells) c.step_keeps_worlds.ensures world other es fs typed corr h m
