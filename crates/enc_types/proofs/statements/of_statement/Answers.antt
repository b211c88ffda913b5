-- A table asks for its keys.
use Rattle.std.proofs.Common.{ap, ◌∙◌, ◌∷◌, []}
use Rattle.std.specs.List.{flat_map}
use Rattle.std.proofs.lemmas.List.Concat.{flat_map_single}
use Rattle.sql_tree.specs.Definitions.{keyed_in}
use Rattle.enc_types.specs.Rules.{key_rule}
use Rattle.enc_types.proofs.statements.of_statement.Goals as goal

pub returns-in-Definition : goal.returns-in-Definition
returns-in-Definition c =
    rw (c.in-Definition.is, ← (ap (flat_map (λ key. key_rule key ∷ [])) c.keyed.ensures ∙ flat_map_single key_rule (keyed_in c.in-Definition.definition))) c.ask_each.ensures
