-- The way so far, with what is left of it, is the whole.
use Rattle.std.proofs.Common.{◌≡◌, ◌++◌, ◌≤◌, length, take, reverse}
use Rattle.inference.specs.Steps.{way_back}
use Rattle.inference.proofs.chains.way_back.Given as goal

abbrev pub invariant-back : goal.invariant-back
invariant-back l =
    (l.left ≤ length l.steps) × (l.way.items ++ way_back (reverse (take l.left l.steps)) l.here ≡ l.initial.way.items ++ way_back (reverse l.steps) l.initial.here)

abbrev pub decreases-back : goal.decreases-back
decreases-back l = l.left
