-- What is made of the matches.
use Rattle.std.specs.Prelude.{◌≡◌, ◌≢◌, List, ℕ, Option, Some, Result, Ok, Err, option_and_then}
use Rattle.ae_base.specs.declared.refusals.Refusal.{Refusal}
use Rattle.ae_base.specs.declared.refusals.Refusal.TheVariants.{Fault, OutOfMemory}
use Rattle.clap.specs.Words.{Row, Text}
use Rattle.clap.specs.declared.error.kind.ErrorKind.{ErrorKind}
use Rattle.clap.specs.declared.error.kind.ErrorKind.TheVariants as kind
use Rattle.command_words.specs.Words.{named, gen_in, wrap_in}
use Rattle.command_words.specs.declared.commands.Command.{Command}

-- the command, or no memory
abbrev pub Is : Option Command → Result Command (Refusal (List ℕ)) → Type 0
Is found (Ok command) = found ≡ Some command
Is found (Err (Fault said)) = ⊥
Is found (Err OutOfMemory) = Unit {0}

abbrev pub Finds : Option (Text × List Row) → Result Command (Refusal (List ℕ)) → Type 0
Finds found = Is (option_and_then named found)

abbrev pub FindsPath : List Row → Result Command (Refusal (List ℕ)) → Type 0
FindsPath rows = Is (wrap_in rows)

abbrev pub FindsSize : List Row → Result Command (Refusal (List ℕ)) → Type 0
FindsSize rows = Is (gen_in rows)

-- words are refused for their own sake only where memory was there
abbrev pub IsOfKind : ErrorKind → Refusal (List ℕ) → Type 0
IsOfKind k (Fault said) = k ≢ kind.OutOfMemory
IsOfKind k OutOfMemory = Unit {0}
