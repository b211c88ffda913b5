-- Laws of opened keys.
use Rattle.std.specs.Prelude.{◌≡◌, ℕ, List, Contains, Some, Ok, length}
use Rattle.ae_base.specs.OneOrTwo.{each_of}
use Rattle.ae_base.specs.declared.key_values.KeyValue.{KeyValue}
use Rattle.ae_base.specs.declared.keys.KeyMeta.{KeyMeta}
use Rattle.ae_edge.specs.Vaults.{KeyMap}
use Rattle.hmac_kdf.specs.Keys.{Keys, keys_of}
use Rattle.key_store.specs.Opening.{column_key, open_key, opened}

-- what a key opens to is derived from the column key that one of its values gives
abbrev pub OpenedAreDerived : Type 0
OpenedAreDerived = (map : KeyMap) (meta : KeyMeta) (keys : Keys) → open_key map meta ≡ Ok keys
    → (key : List ℕ) × (column_key map meta ≡ Ok key) × (keys ≡ keys_of key)
    × ((value : KeyValue) × Contains (each_of meta.values) value × (opened map value ≡ Some key))

-- only 40 wrapped bytes open
abbrev pub OpenedAreWhole : Type 0
OpenedAreWhole = (map : KeyMap) (value : KeyValue) (key : List ℕ) → opened map value ≡ Some key → length value.wrapped ≡ 40

-- a key's number and name don't count: what opens by one's values opens alike by another's of the same
abbrev pub NamesDoNotCount : Type 0
NamesDoNotCount = (map : KeyMap) (a b : KeyMeta) (keys : Keys) → a.values ≡ b.values → open_key map a ≡ Ok keys → open_key map b ≡ Ok keys
