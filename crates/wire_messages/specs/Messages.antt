-- What replies tell.
use Rattle.std.specs.Prelude.{ℕ, ◌≤◌, List, length, map}
use Rattle.ae_base.specs.declared.keys.KeyMeta.{KeyMeta}
use Rattle.wire_messages.specs.declared.params.UsedParam.{UsedParam}
use Rattle.wire_messages.specs.declared.columns.SentColumn.{SentColumn}
use Rattle.wire_messages.specs.KeyLists.{AreTheKeysOf}

-- a described statement: the version of the catalog, the keys of its parameters, and the parameters that it uses
pub record Description : Type 0 where
  pub version : ℕ
  pub keys : List KeyMeta
  pub params : List UsedParam

abbrev pub IsDescription : Description → Type 0
IsDescription d = AreTheKeysOf (map (λ p. p.enc) d.params) d.keys

-- the columns of an answer, with their keys
pub record Header : Type 0 where
  pub keys : List KeyMeta
  pub columns : List SentColumn

-- an answer has 1 to 512 columns
abbrev pub IsFew : {A : Type 0} → List A → Type 0
IsFew xs = (1 ≤ length xs) × (length xs ≤ 512)

abbrev pub IsHeader : Header → Type 0
IsHeader h = AreTheKeysOf (map (λ c. c.enc) h.columns) h.keys × IsFew h.columns
