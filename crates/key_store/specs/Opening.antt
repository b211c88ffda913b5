-- The opening of a column key: the first of its values whose master key the vault has, and which that key unwraps.
use Rattle.std.specs.Prelude.{◌≡◌, ℕ, List, [], ◌∷◌, Option, Some, None, Result, Ok, Err, Bool, is_some, if◌then◌else◌}
use Rattle.std.specs.List.{list_any}
use Rattle.std.specs.Option.{option_and_then, option_or}
use Rattle.ae_base.specs.OneOrTwo.{each_of}
use Rattle.ae_base.specs.Results.{◌>>=◌, or_fault}
use Rattle.ae_base.specs.declared.key_values.KeyValue.{KeyValue}
use Rattle.ae_base.specs.declared.keys.KeyMeta.{KeyMeta}
use Rattle.ae_edge.specs.Devices.{Rose, Stays}
use Rattle.ae_edge.specs.Vaults.{KeyMap, key_at}
use Rattle.hmac_kdf.specs.Keys.{Keys, keys_of}
use Rattle.key_wrap.specs.Wrap.{unwrapping_of}
use Rattle.key_store.specs.declared.faults.KeyFault.{KeyFault}
use Rattle.key_store.specs.declared.faults.KeyFault.TheVariants.{NoMasterKey, KeyRefused}
use Rattle.key_store.specs.declared.faults.OpenFault.{OpenFault}
use Rattle.key_store.specs.declared.faults.OpenFault.TheVariants.{Fault, VaultFault, OutOfMemory}
use Rattle.key_store.specs.declared.opening.Tried.{Tried}
use Rattle.key_store.specs.declared.opening.Tried.TheVariants.{Opened, Shut}

-- the vault's count of faults stays, but where a call of it failed
abbrev pub CountsFault : OpenFault → ℕ → ℕ → Type 0
CountsFault (Fault fault) = Stays
CountsFault VaultFault = Rose
CountsFault OutOfMemory = Stays

abbrev pub CountsOpen : {A : Type 0} → Result A OpenFault → ℕ → ℕ → Type 0
CountsOpen (Ok x) = Stays
CountsOpen (Err e) = CountsFault e

-- ---- one value

-- the column key that it gives, where the map has its path and its wrapped bytes are 40 and unwrap
abbrev pub opened : KeyMap → KeyValue → Option (List ℕ)
opened map value = option_and_then (λ master. unwrapping_of master value.wrapped) (key_at map value.path)

abbrev pub is_there : KeyMap → KeyValue → Bool
is_there map value = is_some (key_at map value.path)

-- it gives none, and its path is there or isn't
abbrev pub IsShut : KeyMap → KeyValue → Bool → Type 0
IsShut map value there = (opened map value ≡ None) × (there ≡ is_there map value)

-- the result of a try of a value: what the value gives, or nothing, and whether its path is there; a vault that fails and
-- out of memory say nothing of it
abbrev pub Tries : {A : Type 0} → Result (Tried A) OpenFault → Option A → Bool → Type 0
Tries (Ok (Opened x)) given there = given ≡ Some x
Tries (Ok (Shut is_there)) given there = (given ≡ None) × (is_there ≡ there)
Tries (Err (Fault fault)) given there = ⊥
Tries (Err VaultFault) given there = Unit {0}
Tries (Err OutOfMemory) given there = Unit {0}

-- what holds where a try gives nothing
abbrev pub OnShut : {A : Type 0} → Result (Tried A) OpenFault → Type 0 → Type 0
OnShut (Ok (Opened x)) P = Unit {0}
OnShut (Ok (Shut is_there)) P = P
OnShut (Err fault) P = P

-- ---- a column key

-- the key that the first of some values gives, of those that give one
abbrev pub first_opened : KeyMap → List KeyValue → Option (List ℕ)
first_opened map [] = None
first_opened map (value ∷ values) = option_or (opened map value) (first_opened map values)

-- where no value gives one: KeyRefused where the map has a path of them, else NoMasterKey with the first path
abbrev pub why_shut : KeyMap → KeyMeta → KeyFault
why_shut map meta = if list_any (is_there map) (each_of meta.values) then KeyRefused meta.name else NoMasterKey meta.values.first.path

unfoldable pub column_key : KeyMap → KeyMeta → Result (List ℕ) KeyFault
column_key map meta = or_fault (why_shut map meta) (first_opened map (each_of meta.values))

-- the keys that are derived from it, under which cells are sealed and opened
unfoldable pub open_key : KeyMap → KeyMeta → Result Keys KeyFault
open_key map meta = column_key map meta >>= λ key. Ok (keys_of key)

-- a call answers what is defined, its value or its fault; a vault that fails and out of memory say nothing of it
abbrev pub Opens : {A : Type 0} → Result A OpenFault → Result A KeyFault → Type 0
Opens (Ok x) defined = defined ≡ Ok x
Opens (Err (Fault fault)) defined = defined ≡ Err fault
Opens (Err VaultFault) defined = Unit {0}
Opens (Err OutOfMemory) defined = Unit {0}
