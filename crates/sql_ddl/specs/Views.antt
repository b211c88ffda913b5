-- The parts of a table, of the code, as lists.
use Rattle.std.specs.Prelude.{List}
use Rattle.sql_tree.specs.declared.statements.ColumnSpec.{ColumnSpec}
use Rattle.sql_tree.specs.declared.statements.UniqueSpec.{UniqueSpec}
use Rattle.sql_ddl.specs.declared.tables.Parts as code_parts

abbrev pub parts_of : code_parts.Parts → List ColumnSpec × List UniqueSpec
parts_of parts = (parts.columns, parts.uniques)
