-- A described batch.
use Rattle.std.specs.Prelude.{◌≡◌, ℕ, ◌≤◌, List, [], ◌∷◌, length, map, Option, Some, None, IsTrue}
use Rattle.ae_base.specs.Names.{all_differ}
use Rattle.ae_base.specs.declared.batches.Batch.{Batch}
use Rattle.ae_base.specs.declared.keys.KeyMeta.{KeyMeta}
use Rattle.ae_base.specs.declared.batches.Param.{Param}
use Rattle.ae_base.specs.declared.types.Enc.{Enc}
use Rattle.wire_messages.specs.KeyLists.{AreTheKeysOf}
use Rattle.conversation.specs.Batches.{why_unfit}

-- the batch, the version of the catalog by which it was described, the keys of its parameters, and how each declared parameter is to be
-- encrypted, where the statement uses it
pub record Pending : Type 0 where
  pub batch : Batch
  pub version : ℕ
  pub keys : List KeyMeta
  pub encs : List (Option Enc)

-- a parameter that is used, and how it is to be encrypted
pub record Use : Type 0 where
  pub param : Param
  pub enc : Enc

abbrev pub uses_in : List Param → List (Option Enc) → List Use
uses_in [] encs = []
uses_in (param ∷ params) [] = []
uses_in (param ∷ params) (None ∷ encs) = uses_in params encs
uses_in (param ∷ params) (Some enc ∷ encs) = record { param = param; enc = enc } ∷ uses_in params encs

-- the parameters that are used, in the order of their declarations
abbrev pub uses_of : Pending → List Use
uses_of p = uses_in p.batch.params p.encs

-- the batch may be sent; there is an encryption for each parameter; the keys are those of the parameters that are used, which are few and
-- differ in their names
pub record IsPending (pending : Pending) : Type 0 where
  pub fit : why_unfit pending.batch ≡ None
  pub each : length pending.encs ≡ length pending.batch.params
  pub keyed : AreTheKeysOf (map (λ u. u.enc) (uses_of pending)) pending.keys
  pub few : length (uses_of pending) ≤ 128
  pub differ : IsTrue (all_differ (map (λ u. u.param.declaration.name) (uses_of pending)))
