-- Which tables a bound statement is bound on.
use Rattle.std.specs.Prelude.{◌≡◌, ℕ, List, [], ◌∷◌, length, map, Option, Some, None, IsSome}
use Rattle.std.specs.List.{All, find, flat_map}
use Rattle.std.specs.Str.{bytes_eq}
use Rattle.ae_base.specs.declared.tables.ColumnDef.{ColumnDef}
use Rattle.ae_base.specs.declared.tables.TableDef.{TableDef}
use Rattle.sql_tree.specs.declared.bound.BoundSource.{BoundSource}
use Rattle.sql_tree.specs.declared.bound.ColumnSite.{ColumnSite}
use Rattle.sql_tree.specs.Bound.{BoundQuery, BoundStatement, Bound}
use Rattle.sql_tree.specs.Bound as bound
use Rattle.sql_tree.specs.Placed.{site_of}

abbrev pub table_among : List TableDef → List ℕ → Option TableDef
table_among tables name = find (λ table. bytes_eq table.name name) tables

abbrev pub columns_in : Option TableDef → List ColumnDef
columns_in None = []
columns_in (Some table) = table.columns

-- the columns of the table of a name
abbrev pub columns_among : List TableDef → List ℕ → List ColumnDef
columns_among tables name = columns_in (table_among tables name)

abbrev pub sites_among : List TableDef → List ℕ → List ColumnSite
sites_among tables name = map site_of (columns_among tables name)

-- the table is there, and these are its columns
abbrev pub AreColumnsOn : List TableDef → List ℕ → List ColumnSite → Type 0
AreColumnsOn tables name columns = IsSome (table_among tables name) × (columns ≡ sites_among tables name)

-- the table is there, and has so many columns
abbrev pub IsSourceOn : List TableDef → BoundSource → Type 0
IsSourceOn tables source = IsSome (table_among tables source.table) × (source.width ≡ length (columns_among tables source.table))

abbrev pub sources_of : BoundQuery → List BoundSource
sources_of q = q.from ∷ map (λ join. join.source) q.joins

abbrev pub IsStatementOn : List TableDef → List ColumnSite → BoundStatement → Type 0
IsStatementOn tables columns (bound.Definition d) = Unit {0}
IsStatementOn tables columns (bound.Insert insert) = AreColumnsOn tables insert.table columns
IsStatementOn tables columns (bound.Update update) = AreColumnsOn tables update.table columns
IsStatementOn tables columns (bound.Delete delete) = AreColumnsOn tables delete.table columns
IsStatementOn tables columns (bound.Select query) =
    All (IsSourceOn tables) (sources_of query) × (columns ≡ flat_map (λ source. sites_among tables source.table) (sources_of query))
IsStatementOn tables columns (bound.Control control) = Unit {0}

-- the tables that the statement reads or writes are there, with the columns that it names
abbrev pub IsOnTables : List TableDef → Bound → Type 0
IsOnTables tables bound = IsStatementOn tables bound.columns bound.statement
