use Rattle.engine.specs.Correspond.{Related}
use Rattle.renaming_laws.proofs.InTurn as turns
use Rattle.renaming_laws.proofs.laws.steps_alike.Goals as goal

pub returns : goal.returns
returns c = λ related world other es fs r within typed corr h m. turns.steps_alike (Related related) r within c.step_keeps_worlds.ensures world other es fs typed corr h m
