-- The copies so far are the first declarations.
use Rattle.std.proofs.Common.{◌≡◌, take}
use Rattle.statement_analysis.proofs.params.declared.Given as goal

abbrev pub invariant-loop-declaration : goal.invariant-loop-declaration
invariant-loop-declaration l = l.copies ≡ take l.declaration-index l.declarations
