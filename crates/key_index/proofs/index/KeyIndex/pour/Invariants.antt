-- What is left of the level is said over what was said again.
use Rattle.std.proofs.Common.{◌≡◌, ◌≤◌, List}
use Rattle.indexmap.specs.IndexMap.{index_map_len}
use Rattle.ae_base.specs.Atoms.{Atom}
use Rattle.key_index.specs.Levels.{number_through}
use Rattle.key_index.specs.Numbers.{number_at}
use Rattle.key_index.proofs.index.KeyIndex.pour.Given as goal

abbrev pub invariant-loop-key : goal.invariant-loop-key
invariant-loop-key g l = record {
  so_far : (key : List Atom)
      → number_through l.fn.level.entries (number_at l.fn.self) key ≡ number_through l.level.entries (number_at l.self) key;
  room : index_map_len l.level ≤ l.self.spare;
}

abbrev pub decreases-loop-key : goal.decreases-loop-key
decreases-loop-key g l = index_map_len l.level
