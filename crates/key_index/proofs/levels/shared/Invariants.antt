-- The levels so far.
use Rattle.std.proofs.Common.{◌≡◌, map, take}
use Rattle.key_index.proofs.levels.shared.Given as goal

abbrev pub invariant-loop-level : goal.invariant-loop-level
invariant-loop-level g l = map (λ level. level.value.entries)
    l.copy.items ≡ map (λ level. level.value.entries) (take l.level-index l.levels)
