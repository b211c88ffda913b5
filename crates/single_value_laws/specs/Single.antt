-- Which scripts give no column key a second value.
use Rattle.std.specs.Prelude.{◌≡◌, ℕ, List, None, Ok, encode_utf8_all}
use Rattle.ae_base.specs.declared.one_or_two.OneOrTwo.{OneOrTwo}
use Rattle.sql_grammar.specs.Texts.{statement_in}
use Rattle.sql_tree.specs.Statements.{Statement}
use Rattle.sql_tree.specs.Statements as tree
use Rattle.sql_tree.specs.declared.statements.Definition.{Definition}
use Rattle.sql_tree.specs.declared.statements.Definition.TheVariants as written
use Rattle.script_lang.specs.declared.steps.Step.{Step}
use Rattle.script_lang.specs.declared.steps.Step.TheVariants.{Turn, Trust}
use Rattle.ae_base.specs.declared.batches.Batch.{Batch}
use Rattle.script_lang.specs.Limits.{OfBatch}

-- one value, and no second
abbrev pub IsSingle : {A : Type 0} → OneOrTwo A → Type 0
IsSingle values = values.second ≡ None

-- CREATE COLUMN ENCRYPTION KEY has one value, and nothing is ADD VALUE
abbrev pub GivesOne : Definition → Type 0
GivesOne (written.CreateKey name values) = IsSingle values
GivesOne (written.AddValue key value) = ⊥
GivesOne other = Unit {0}

abbrev pub IsOfSingle : Statement → Type 0
IsOfSingle (tree.Definition d) = GivesOne d
IsOfSingle other = Unit {0}

-- the text, if it is a statement, gives no key a second value
abbrev pub TextIsOfSingle : List ℕ → Type 0
TextIsOfSingle text = (statement : Statement) → statement_in (encode_utf8_all text) ≡ Ok statement → IsOfSingle statement

abbrev pub BatchIsOfSingle : Batch → Type 0
BatchIsOfSingle batch = TextIsOfSingle batch.text

abbrev pub IsSingleStep : Step → Type 0
IsSingleStep (Turn number act) = OfBatch BatchIsOfSingle act
IsSingleStep (Trust path) = Unit {0}
