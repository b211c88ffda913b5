-- What was made so far, with what the others make, is the whole.
use Rattle.std.proofs.Common.{◌≡◌, ◌++◌, drop, map}
use Rattle.resolve.specs.Definitions.{place_of_key}
use Rattle.resolve.proofs.definitions.places_of_list.Given as goal

abbrev pub invariant-loop-key : goal.invariant-loop-key
invariant-loop-key l =
    l.places ++ map place_of_key (drop l.key-index l.keys) ≡ map place_of_key l.keys
