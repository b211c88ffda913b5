use Rattle.std.proofs.Common.{◌∙◌, refl}
use Rattle.std.proofs.lemmas.Simd.{length-zip2}
use Rattle.aes_block.proofs.Shifts.{bit-masked}
use Rattle.aes_block.proofs.planes.Plane.masked.Goals as goal

pub invariant_of-result : goal.invariant_of-result
invariant_of-result c = length-zip2 _ _ _ c.self.invariant ∙ c.self.invariant

pub returns : goal.returns
returns c r column i =
    rw (← c.self.view_is) (bit-masked _ (λ a b. refl) c.self.inside.lanes c.args.mask r column i c.self.invariant)
