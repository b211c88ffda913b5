-- Where no column key gets a second value, all values of each open to one key.
use Rattle.std.specs.Prelude.{List}
use Rattle.std.specs.List.{All}
use Rattle.ae_edge.specs.Vaults.{KeyMap}
use Rattle.script_lang.specs.declared.steps.Step.{Step}
use Rattle.plaintext_laws.specs.Alike.{Alike}
use Rattle.single_value_laws.specs.Single.{IsSingleStep}

abbrev pub SingleValuesAreAlike : Type 0
SingleValuesAreAlike = (keys : KeyMap) (steps : List Step) → All IsSingleStep steps → Alike keys steps
