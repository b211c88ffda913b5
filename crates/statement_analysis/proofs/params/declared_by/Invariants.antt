-- The declarations so far are those of the first parameters.
use Rattle.std.proofs.Common.{◌≡◌, take, map}
use Rattle.statement_analysis.specs.Params.{declaration_of}
use Rattle.statement_analysis.proofs.params.declared_by.Given as goal

abbrev pub invariant-loop-param : goal.invariant-loop-param
invariant-loop-param l = l.copies ≡ map declaration_of (take l.param-index l.params)
