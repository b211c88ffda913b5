-- The levels so far.
use Rattle.std.proofs.Common.{◌≡◌, map, take}
use Rattle.key_index.specs.Levels.{number_under}
use Rattle.key_index.proofs.levels.number_below.Given as goal

abbrev pub invariant-loop-level : goal.invariant-loop-level
invariant-loop-level g l = l.found ≡ number_under (map (λ level. level.value.entries) (take l.level-index l.below)) l.key
