-- The result of inference: the least typing, or the first clash with a chain that shows it, exactly where there is no typing.
use Rattle.std.specs.Prelude.{◌≡◌, ℕ, ◌+◌, ◌<◌, List, true, false, length, take, Result, Ok, Err}
use Rattle.ae_base.specs.declared.refusals.Refusal.{Refusal}
use Rattle.ae_base.specs.declared.refusals.Refusal.TheVariants.{Fault, OutOfMemory}
use Rattle.ae_base.specs.declared.types.Ty.{Ty}
use Rattle.ae_base.specs.declared.types.Enc.{Enc}
use Rattle.sql_tree.specs.declared.bound.ColumnSite.{ColumnSite}
use Rattle.sql_tree.specs.Bound.{Bound}
use Rattle.enc_types.specs.Rules.{rules}
use Rattle.enc_types.specs.Typing.{Typing, HasTyping, IsLeastTyping}
use Rattle.enc_types.specs.Least.{encs_from, has_typing, clash, inferred_over}
use Rattle.enc_types.specs.Clash.{IsClash}
use Rattle.enc_types.specs.declared.rules.Rule.{Rule}
use Rattle.enc_types.specs.declared.typed.Typed.{Typed}
use Rattle.inference.specs.declared.infer.EncryptionClash.{EncryptionClash}

-- the parameters have what the least typing gives them
pub record AreLeast (params : List Ty) (columns : List ColumnSite) (rules : List Rule) (encs : List Enc) : Type 0 where
  pub typing : Typing
  pub least : IsLeastTyping params columns rules typing
  pub given : encs ≡ encs_from typing 0 params
  pub inferred : inferred_over params columns rules ≡ Ok encs

-- there is no typing; the rules clash there, and the chain shows it
pub record IsClashOf (params : List Ty) (columns : List ColumnSite) (rules : List Rule) (clash : EncryptionClash) : Type 0 where
  pub untyped : ¬ (HasTyping params columns rules)
  pub clashes : IsClash params columns rules clash.at clash.chain
  pub inferred : inferred_over params columns rules ≡ Err clash.at

abbrev pub InfersOver : List Ty → List ColumnSite → List Rule → Result (List Enc) (Refusal EncryptionClash) → Type 0
InfersOver params columns rules (Ok encs) = AreLeast params columns rules encs
InfersOver params columns rules (Err (Fault clash)) = IsClashOf params columns rules clash
InfersOver params columns rules (Err OutOfMemory) = Unit {0}

abbrev pub InfersEncs : Bound → Result (List Enc) (Refusal EncryptionClash) → Type 0
InfersEncs bound result = InfersOver bound.params bound.columns (rules bound) result

abbrev pub Infers : Bound → Result Typed (Refusal EncryptionClash) → Type 0
Infers bound (Ok typed) = AreLeast bound.params bound.columns (rules bound) typed.encs
Infers bound (Err (Fault clash)) = IsClashOf bound.params bound.columns (rules bound) clash
Infers bound (Err OutOfMemory) = Unit {0}

-- so many rules have a typing, and one more have none
pub record IsLastTyped (params : List Ty) (columns : List ColumnSite) (rules : List Rule) (last : ℕ) : Type 0 where
  pub within : last < length rules
  pub typed : has_typing params columns (take last rules) ≡ true
  pub untyped : has_typing params columns (take (last + 1) rules) ≡ false
