-- None of the tables so far has the name.
use Rattle.std.proofs.Common.{◌≡◌, drop}
use Rattle.lookups.specs.Uniques.{uniques_among}
use Rattle.lookups.proofs.uniques.uniques_of.Given as goal

abbrev pub invariant-loop-table : goal.invariant-loop-table
invariant-loop-table l = uniques_among l.tables l.name ≡ uniques_among (drop l.table-index l.tables) l.name
