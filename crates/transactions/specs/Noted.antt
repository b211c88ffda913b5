-- What is true of the notes of transactions, while others go on.
use Rattle.std.specs.Prelude.{◌≡◌, ◌≢◌, ◌≤◌, ℕ, List, [], ◌∷◌, length, Option, Some, None, false, true, IsSome}
use Rattle.std.specs.List.{All, AllPairs}
use Rattle.ae_base.specs.declared.tables.TableDef.{TableDef}
use Rattle.sql_tree.specs.OnTables.{table_among}
use Rattle.catalog.specs.Catalogs.{table_named}
use Rattle.catalog.specs.WellFormed.{IsCatalog}
use Rattle.transactions.specs.declared.uses.Used.{Used}
use Rattle.transactions.specs.Counted.{Counted, count_of, is_at_last_count}
use Rattle.transactions.specs.Stores.{Transaction, Store, is_used}
use Rattle.transactions.specs.WellKept.{IsShared}

-- no two names are the same
abbrev pub AreApart : List (List ℕ) → Type 0
AreApart [] = Unit {0}
AreApart (name ∷ names) = All (λ other. name ≢ other) names × AreApart names

-- rows and a count for each table
pub record IsInShape (c : Counted) : Type 0 where
  pub contents : length c.world.contents ≡ length c.world.catalog.tables
  pub counts : length c.counts ≡ length c.world.catalog.tables

-- a world may be laid over the shared one: its tables differ in their names, and those that were not used are shared ones
pub record MayLieOver (shared own : Counted) (used : List Used) : Type 0 where
  pub shape : IsInShape shared
  pub own_shape : IsInShape own
  pub differ : AllPairs (λ a b. a.name ≢ b.name) own.world.catalog.tables
  pub tables : All (IsShared shared.world.catalog used) own.world.catalog.tables

-- a table that was not used is the shared one, which was changed as often at least
abbrev pub IsUnused : (shared own : Counted) → List Used → TableDef → Type 0
IsUnused shared own used def =
    is_used used def.name ≡ false → (table_named shared.world.catalog def.name ≡ Some def) × (count_of own def.name ≤ count_of shared def.name)

-- the catalog of BEGIN: nothing was replaced since
pub record IsUnreplaced (shared : Counted) (t : Transaction) : Type 0 where
  pub catalog : t.own.world.catalog ≡ shared.world.catalog
  pub seen : All (λ u. u.seen ≤ count_of t.own u.table) t.used

-- as long as no definition was accepted in the shared world since its BEGIN
pub record IsEarlier (shared : Counted) (t : Transaction) : Type 0 where
  pub unused : All (IsUnused shared t.own t.used) t.own.world.catalog.tables
  pub seen : All (λ u. u.seen ≤ count_of shared u.table) t.used
  pub unreplaced : t.own.world.catalog.version ≡ t.version → IsUnreplaced shared t

-- a changed table is there, is used, and can be changed once more
pub record IsChanged (t : Transaction) (name : List ℕ) : Type 0 where
  pub there : IsSome (table_among t.own.world.catalog.tables name)
  pub used : is_used t.used name ≡ true
  pub further : is_at_last_count t.own (Some name) ≡ false

pub record IsNoted (shared : Counted) (t : Transaction) : Type 0 where
  pub catalog : IsCatalog t.own.world.catalog
  pub shape : IsInShape t.own
  pub later : t.version ≤ shared.world.catalog.version
  pub newer : t.version ≤ t.own.world.catalog.version
  pub earlier : shared.world.catalog.version ≡ t.version → IsEarlier shared t
  pub changed : All (IsChanged t) t.changed
  pub differ : AreApart t.changed

abbrev pub IsNotedIn : Counted → Option Transaction → Type 0
IsNotedIn shared None = Unit {0}
IsNotedIn shared (Some t) = IsNoted shared t

pub record IsHeld (store : Store) : Type 0 where
  pub catalog : IsCatalog store.shared.world.catalog
  pub shape : IsInShape store.shared
  pub sessions : All (IsNotedIn store.shared) store.sessions
