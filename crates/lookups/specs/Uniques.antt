-- The unique keys of tables.
use Rattle.std.specs.Prelude.{ℕ, List, [], Option, Some, None}
use Rattle.ae_base.specs.declared.tables.TableDef.{TableDef}
use Rattle.sql_tree.specs.OnTables.{table_among}

-- the unique keys of each table, by its name
abbrev pub Uniques : Type 0
Uniques = List ℕ → List (List ℕ)

abbrev pub uniques_in : Option TableDef → List (List ℕ)
uniques_in None = []
uniques_in (Some table) = table.uniques

-- those of some tables
abbrev pub uniques_among : List TableDef → Uniques
uniques_among tables name = uniques_in (table_among tables name)
