-- The keys that a message lists, value by value.
use Rattle.std.specs.Prelude.{◌≡◌, ℕ, ◌≤◌, List, [], ◌∷◌, ◌++◌, length, map, flat_map, take, drop, Some, Bool, ◌==◌, ◌&&◌, if◌then◌else◌}
use Rattle.std.specs.List.{list_any}
use Rattle.std.specs.Str.{bytes_eq}
use Rattle.ae_base.specs.OneOrTwo.{each_of, only}
use Rattle.ae_base.specs.declared.types.Enc.{Enc}
use Rattle.ae_base.specs.declared.types.Enc.TheVariants as enc
use Rattle.ae_base.specs.declared.key_values.KeyValue.{KeyValue}
use Rattle.ae_base.specs.declared.keys.KeyMeta.{KeyMeta}
use Rattle.wire_messages.specs.declared.key_entries.KeyEntry.{KeyEntry}

-- ---- entries

abbrev pub entry_of : KeyMeta → KeyValue → KeyEntry
entry_of key value = record { id = key.id; name = key.name; value = value }

-- an entry for each value of a key, in their order
abbrev pub entries_of_key : KeyMeta → List KeyEntry
entries_of_key key = map (entry_of key) (each_of key.values)

abbrev pub entries_of : List KeyMeta → List KeyEntry
entries_of keys = flat_map entries_of_key keys

-- the key of an entry that stands alone, and that of two
abbrev pub lone : KeyEntry → KeyMeta
lone e = record { id = e.id; name = e.name; values = only e.value }

abbrev pub pair : KeyEntry → KeyEntry → KeyMeta
pair e f = record { id = e.id; name = e.name; values = record { first = e.value; second = Some f.value } }

abbrev pub are_of_one_key : KeyEntry → KeyEntry → Bool
are_of_one_key e f = (e.id == f.id) && bytes_eq e.name f.name

-- Two neighbours of one number and one name are the values of one key, and any other entry is a key of one value. So three
-- entries of one number, two of different names or two that stand apart give a number twice, as no message's keys have it.
abbrev pub gathered : List KeyEntry → List KeyMeta
gathered [] = []
gathered (e ∷ []) = lone e ∷ []
gathered (e ∷ f ∷ es) = if are_of_one_key e f then pair e f ∷ gathered es else lone e ∷ gathered (f ∷ es)

-- ---- keys

-- the keys of some encryptions, in the order of their first use, without those that were used before
abbrev pub keys_used : List ℕ → List Enc → List ℕ
keys_used before [] = []
keys_used before (enc.Plain ∷ encs) = keys_used before encs
keys_used before (enc.Det key ∷ encs) = if list_any (λ k. k == key) before then keys_used before encs else key ∷ keys_used (before ++ key ∷ []) encs
keys_used before (enc.Rnd key ∷ encs) = if list_any (λ k. k == key) before then keys_used before encs else key ∷ keys_used (before ++ key ∷ []) encs

abbrev pub ids_of : List KeyMeta → List ℕ
ids_of keys = map (λ key. key.id) keys

-- the listed keys are those that are used, in the order of their first use, and no others; they have at most 128 entries
abbrev pub AreTheKeysOf : List Enc → List KeyMeta → Type 0
AreTheKeysOf encs keys = (ids_of keys ≡ keys_used [] encs) × (length (entries_of keys) ≤ 128)

-- where so many of the ids are used so far, the others are those that some encryptions use
abbrev pub lists_from : List ℕ → ℕ → List Enc → Bool
lists_from ids used encs = bytes_eq (drop used ids) (keys_used (take used ids) encs)
