-- What was made so far, with what the others make, is the whole.
use Rattle.std.proofs.Common.{◌≡◌, ◌++◌, drop, map}
use Rattle.expression_binding.specs.Declarations.{type_of}
use Rattle.resolve.proofs.statements.types_of.Given as goal

abbrev pub invariant-loop-declaration : goal.invariant-loop-declaration
invariant-loop-declaration l =
    l.types ++ map type_of (drop l.declaration-index l.declarations) ≡ map type_of l.declarations
