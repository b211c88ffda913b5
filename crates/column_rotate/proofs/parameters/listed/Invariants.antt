-- The parameters so far, before those of the rest.
use Rattle.std.proofs.Common.{◌≡◌, ◌++◌, ◌+◌, drop}
use Rattle.column_rotate.specs.Texts.{params_from}
use Rattle.column_rotate.proofs.parameters.listed.Given as goal

abbrev pub invariant-loop-i : goal.invariant-loop-i
invariant-loop-i l = params_from 1 l.columns l.values ≡ l.params ++ params_from (l.i + 1) (drop l.i l.columns) (drop l.i l.values)
