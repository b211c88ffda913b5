-- All places so far are.
use Rattle.std.proofs.Common.{◌≡◌, drop}
use Rattle.std.specs.Prelude.{nat_lt}
use Rattle.std.specs.List.{list_all}
use Rattle.lookups.proofs.finding.all_within.Given as goal

abbrev pub invariant-loop-place : goal.invariant-loop-place
invariant-loop-place l = list_all (λ place. nat_lt place l.more) l.places ≡ list_all (λ place. nat_lt place l.more) (drop l.place-index l.places)
