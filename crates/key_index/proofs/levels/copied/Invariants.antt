-- The last entries are said again.
use Rattle.std.proofs.Common.{◌≡◌, ◌-◌, List, ℕ, Option, drop, length}
use Rattle.ae_base.specs.Atoms.{Atom}
use Rattle.key_index.specs.Levels.{number_through}
use Rattle.key_index.proofs.levels.copied.Given as goal

abbrev pub invariant-loop-i : goal.invariant-loop-i
invariant-loop-i g l = (before : List Atom → Option ℕ) (key : List Atom)
    → number_through l.copy.entries before key ≡ number_through (drop (length l.level.entries - l.i) l.level.entries) before key
