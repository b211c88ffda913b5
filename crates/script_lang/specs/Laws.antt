-- What every script's steps are.
use Rattle.std.specs.Prelude.{◌≡◌, ℕ, List, Ok}
use Rattle.std.specs.List.{All}
use Rattle.script_lang.specs.Limits.{IsWithinLimits}
use Rattle.script_lang.specs.Script.{steps_of}
use Rattle.script_lang.specs.declared.steps.Step.{Step}

-- each turn is one of a session from 1 to 64, and a batch has at most 128 parameters, whose names differ; the tables of a rotation have names
abbrev pub ScriptsAreWithinLimits : Type 0
ScriptsAreWithinLimits = (bytes : List ℕ) (steps : List Step) → steps_of bytes ≡ Ok steps → All IsWithinLimits steps
