-- What was made so far, with what the others make, is the whole.
use Rattle.std.proofs.Common.{◌≡◌, ◌++◌, drop, map}
use Rattle.resolve.specs.Definitions.{alone}
use Rattle.resolve.proofs.definitions.each_alone.Given as goal

abbrev pub invariant-loop-key : goal.invariant-loop-key
invariant-loop-key l =
    l.uniques ++ map alone (drop l.key-index l.words) ≡ map alone l.words
