-- The answers so far, with those of the rows that are left, are the whole.
use Rattle.std.proofs.Common.{◌≡◌, ◌++◌, [], map, drop}
use Rattle.operators.specs.Found.{are_first}
use Rattle.operators.proofs.Firsts.{shown_of}
use Rattle.operators.proofs.distinct.firsts.Given as goal

abbrev pub invariant-loop-found : goal.invariant-loop-found
invariant-loop-found g l =
    are_first [] (map shown_of l.initial.found) ≡ l.firsts.items ++ are_first (map (λ key. key.items) l.seen.keys) (map shown_of (drop l.found-index l.initial.found))
