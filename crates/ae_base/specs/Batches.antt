-- Batches: whether the values of their parameters fit.
use Rattle.std.specs.Prelude.{ℕ, List, [], ◌∷◌, Option, Some, None, if◌then◌else◌}
use Rattle.ae_base.specs.Values.{value_is_within}
use Rattle.ae_base.specs.declared.batches.Param.{Param}

-- the first parameter, in declaration order, whose value doesn't fit its type
abbrev pub first_unfit : List Param → Option (List ℕ)
first_unfit [] = None
first_unfit (p ∷ ps) = if value_is_within p.value p.declaration.ty then first_unfit ps else Some p.declaration.name
