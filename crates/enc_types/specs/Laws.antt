-- What holds of every typing.
use Rattle.std.specs.Prelude.{◌≡◌, ◌⊎◌, List, length, map, Ok}
use Rattle.std.specs.List.{All, Contains}
use Rattle.ae_base.specs.declared.types.Ty.{Ty}
use Rattle.ae_base.specs.declared.types.Enc.{Enc}
use Rattle.ae_base.specs.declared.types.Enc.TheVariants.{Plain}
use Rattle.sql_tree.specs.declared.bound.ColumnSite.{ColumnSite}
use Rattle.sql_tree.specs.Bound.{Bound}
use Rattle.enc_types.specs.Rules.{rules}
use Rattle.enc_types.specs.Typing.{HasTyping, IsTyping, IsLeastTyping}
use Rattle.enc_types.specs.Least.{least, encs_from, inferred_encs}
use Rattle.enc_types.specs.declared.rules.Rule.{Rule}

abbrev pub LeastTyping : Type 0
LeastTyping = (params : List Ty) (columns : List ColumnSite) (rules : List Rule) → HasTyping params columns rules → IsLeastTyping params columns rules (least columns rules)

-- what was inferred of a statement is what the least typing, under which all its rules hold, gives to its parameters
pub record IsTypedAs (bound : Bound) (encs : List Enc) : Type 0 where
  pub typing : IsTyping bound.params bound.columns (rules bound) (least bound.columns (rules bound))
  pub given : encs ≡ encs_from (least bound.columns (rules bound)) 0 bound.params

abbrev pub TypedStatements : Type 0
TypedStatements = (bound : Bound) (encs : List Enc) → inferred_encs bound ≡ Ok encs → IsTypedAs bound encs

-- plain, or encrypted as a column is
abbrev pub IsOfColumn : List ColumnSite → Enc → Type 0
IsOfColumn columns enc = (enc ≡ Plain) ⊎ Contains (map (λ site. site.enc) columns) enc

-- what is inferred is for each parameter, and of the statement's columns
abbrev pub TypingsAreOfColumns : Type 0
TypingsAreOfColumns = (bound : Bound) (encs : List Enc) → inferred_encs bound ≡ Ok encs → (length encs ≡ length bound.params) × All (IsOfColumn bound.columns) encs
