-- The keys that are left decide.
use Rattle.std.proofs.Common.{◌≡◌, map, drop}
use Rattle.sql_tree.specs.Bound.{assignment_of}
use Rattle.indexed_tables.specs.Updates.{sets_a_key}
use Rattle.unique_keys.specs.Indexes.{keys_of}
use Rattle.indexed_tables.proofs.keys_set.sets_a_key.Given as goal

abbrev pub invariant-loop-index : goal.invariant-loop-index
invariant-loop-index g l = sets_a_key (map assignment_of l.assignments) (keys_of l.indexes) ≡ sets_a_key (map assignment_of l.assignments) (keys_of (drop l.index-index l.indexes))
