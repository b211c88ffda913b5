use Rattle.std.proofs.Common.{◌∙◌, refl, sym}
use Rattle.std.proofs.lemmas.Simd.{length-zip2}
use Rattle.aes_block.proofs.Lanes.{bit-multiplied}
use Rattle.aes_block.proofs.planes.PlaneBitAnd.bitand.Goals as goal

pub invariant_of-result : goal.invariant_of-result
invariant_of-result c = length-zip2 _ _ _ (c.self.invariant ∙ sym c.other.invariant) ∙ c.self.invariant

pub returns : goal.returns
returns c r column j = rw (← c.self.view_is, ← c.other.view_is) (bit-multiplied _ (λ a b. refl) c.self.inside.lanes c.other.inside.lanes r column j (c.self.invariant ∙ sym c.other.invariant))
