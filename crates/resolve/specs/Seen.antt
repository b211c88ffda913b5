-- The tables and statements of the code, without where they lie in memory.
use Rattle.std.specs.Prelude.{List, map}
use Rattle.resolve.specs.declared.sources.Joined as code_joined
use Rattle.resolve.specs.declared.sources.Sources as code_sources
use Rattle.resolve.specs.declared.statements.Placed as code_placed
use Rattle.ae_base.specs.declared.batches.ParamDecl.{ParamDecl}
use Rattle.sql_tree.specs.Conditions.{condition_of}
use Rattle.sql_tree.specs.Bound.{Bound, statement_of}
use Rattle.expression_binding.specs.Seen.{source_seen}
use Rattle.resolve.specs.Tables.{Joined, Sources}
use Rattle.resolve.specs.Bind.{bound_over}

abbrev pub joined_seen : code_joined.Joined → Joined
joined_seen j = record { source = source_seen j.source; on = condition_of j.on.now }

abbrev pub sources_seen : code_sources.Sources → Sources
sources_seen s = record { from = source_seen s.from; joins = map joined_seen s.joins }

-- with the types of the declarations, the whole
abbrev pub bound_of_placed : List ParamDecl → code_placed.Placed → Bound
bound_of_placed declarations placed = bound_over declarations placed.columns (statement_of placed.statement)
