-- The keys so far stand before the others.
use Rattle.std.proofs.Common.{◌≡◌, ◌++◌, drop}
use Rattle.resolve.specs.Definitions.{word_keys}
use Rattle.resolve.proofs.definitions.word_keys.Given as goal

abbrev pub invariant-loop-place : goal.invariant-loop-place
invariant-loop-place l =
    l.keys ++ word_keys l.place (drop l.place l.columns) ≡ word_keys 0 l.columns
