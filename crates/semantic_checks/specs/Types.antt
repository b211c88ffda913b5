-- The types of the code, without where they lie in memory.
use Rattle.semantic_checks.specs.declared.kinds.Types as code
use Rattle.semantic_checks.specs.Clashes.{Types}

abbrev pub types_seen : code.Types → Types
types_seen t = record { columns = t.columns.now; params = t.params.now }
