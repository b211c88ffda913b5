-- Those bound so far stand before the others.
use Rattle.std.proofs.Common.{◌≡◌, drop}
use Rattle.ae_base.specs.Results.{each}
use Rattle.expression_binding.proofs.Interface.{onto}
use Rattle.resolve.specs.Definitions.{bind_unique}
use Rattle.resolve.proofs.definitions.bind_uniques.Given as goal

abbrev pub invariant-loop-unique : goal.invariant-loop-unique
invariant-loop-unique l =
    each (bind_unique l.columns) l.uniques
    ≡ onto l.lists (each (bind_unique l.columns) (drop l.unique-index l.uniques))
