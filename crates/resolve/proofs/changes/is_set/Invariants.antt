-- None so far is one.
use Rattle.std.proofs.Common.{◌≡◌, drop, map}
use Rattle.std.specs.List.{list_any}
use Rattle.sql_tree.specs.Statements as tree
use Rattle.std.specs.Str.{bytes_eq}
use Rattle.resolve.specs.Changes.{column_of}
use Rattle.resolve.proofs.changes.is_set.Given as goal

abbrev pub invariant-loop-assignment : goal.invariant-loop-assignment
invariant-loop-assignment l =
    list_any (bytes_eq l.name) (map column_of (map tree.assignment_of l.assignments)) ≡ list_any (bytes_eq l.name) (map column_of (map tree.assignment_of (drop l.assignment-index l.assignments)))
