-- Which catalogs can occur, and how one follows another.
use Rattle.std.specs.Prelude.{◌≡◌, ◌≢◌, ◌<◌, ◌≤◌, ℕ, ◌+◌, List, ◌++◌, length, map, Contains, IsSome, slice_index_or}
use Rattle.std.specs.List.{All, AllPairs}
use Rattle.ae_base.specs.OneOrTwo.{each_of}
use Rattle.ae_base.specs.declared.keys.EncryptedValue.{EncryptedValue}
use Rattle.ae_base.specs.declared.one_or_two.OneOrTwo.{OneOrTwo}
use Rattle.ae_base.specs.declared.tables.TableDef.{TableDef}
use Rattle.ae_base.specs.declared.types.Enc.{Enc}
use Rattle.ae_base.specs.declared.types.Enc.TheVariants.{Plain, Det, Rnd}
use Rattle.catalog.specs.Catalogs.{Catalog, master_named, key_of}
use Rattle.catalog.specs.declared.keys.ColumnKey.{ColumnKey}

-- the column key of an encryption is there
abbrev pub IsKeyThere : Catalog → Enc → Type 0
IsKeyThere catalog Plain = Unit {0}
IsKeyThere catalog (Det id) = IsSome (key_of catalog id)
IsKeyThere catalog (Rnd id) = IsSome (key_of catalog id)

abbrev pub AreKeysThere : Catalog → TableDef → Type 0
AreKeysThere catalog table = All (λ column. IsKeyThere catalog column.enc) table.columns

abbrev pub IsMasterThere : Catalog → EncryptedValue → Type 0
IsMasterThere catalog value = IsSome (master_named catalog value.master)

abbrev pub AreMastersThere : Catalog → OneOrTwo EncryptedValue → Type 0
AreMastersThere catalog values = All (IsMasterThere catalog) (each_of values)

abbrev pub MastersDiffer : OneOrTwo EncryptedValue → Type 0
MastersDiffer values = AllPairs (λ a b. a.master ≢ b.master) (each_of values)

-- names of a kind differ; keys are numbered in the order of their definitions, from 1 and below the next number; what is
-- named is there; two values of a key are under different master keys; the limits are kept
pub record IsCatalog (catalog : Catalog) : Type 0 where
  pub masters_differ : AllPairs (λ a b. a.name ≢ b.name) catalog.masters
  pub keys_differ : AllPairs (λ a b. a.name ≢ b.name) catalog.keys
  pub tables_differ : AllPairs (λ a b. a.name ≢ b.name) catalog.tables
  pub ids_ascend : AllPairs (λ a b. a.id < b.id) catalog.keys
  pub ids_lie_below : All (λ key. (1 ≤ key.id) × (key.id < catalog.next_id)) catalog.keys
  pub masters_there : All (λ key. AreMastersThere catalog key.values) catalog.keys
  pub values_differ : All (λ key. MastersDiffer key.values) catalog.keys
  pub keys_there : All (AreKeysThere catalog) catalog.tables
  pub few_masters : length catalog.masters ≤ 64
  pub few_keys : length catalog.keys ≤ 64
  pub few_tables : length catalog.tables ≤ 256
  pub next_id : (1 ≤ catalog.next_id) × (catalog.next_id ≤ 4294967296)
  pub version : catalog.version ≤ 18446744073709551615

-- what stays of a column key as long as it is there
abbrev pub label_of : ColumnKey → ℕ × List ℕ
label_of key = (key.id, key.name)

-- a catalog that comes of another by definitions: the keys that were created in between count up from the old next number,
-- and each key has the number and the name of an old one or of one of these
pub record Follows (old new : Catalog) : Type 0 where
  pub created : List ColumnKey
  pub numbers : (k : ℕ) (default : ColumnKey) → k < length created → (slice_index_or created k default).id ≡ old.next_id + k
  pub next_id : new.next_id ≡ old.next_id + length created
  pub keys : All (λ key. Contains (map label_of (old.keys ++ created)) (label_of key)) new.keys
  pub version : old.version ≤ new.version
