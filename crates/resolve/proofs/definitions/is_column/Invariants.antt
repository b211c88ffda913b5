-- None so far is one.
use Rattle.std.proofs.Common.{◌≡◌, drop, map}
use Rattle.std.specs.List.{list_any}
use Rattle.std.specs.Str.{bytes_eq}
use Rattle.resolve.specs.Definitions.{name_of}
use Rattle.resolve.proofs.definitions.is_column.Given as goal

abbrev pub invariant-loop-column : goal.invariant-loop-column
invariant-loop-column l =
    list_any (bytes_eq l.name) (map name_of l.columns) ≡ list_any (bytes_eq l.name) (map name_of (drop l.column-index l.columns))
