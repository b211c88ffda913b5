-- The scopes of the code, without where they lie in memory.
use Rattle.std.specs.Prelude.{map}
use Rattle.expression_binding.specs.declared.scopes.Source as code_source
use Rattle.expression_binding.specs.declared.scopes.ScopeColumn as code_column
use Rattle.expression_binding.specs.declared.scopes.Scope as code_scope
use Rattle.expression_binding.specs.Scopes.{Source, ScopeColumn, Scope}

abbrev pub source_seen : code_source.Source → Source
source_seen s = record { table = s.table.now; visible = s.visible.now; def = s.def.now }

abbrev pub column_seen : code_column.ScopeColumn → ScopeColumn
column_seen c = record { visible = c.visible.now; column = c.column.now }

abbrev pub scope_seen : code_scope.Scope → Scope
scope_seen s = record { sources = map (λ name. name.now) s.sources; columns = map column_seen s.columns }
