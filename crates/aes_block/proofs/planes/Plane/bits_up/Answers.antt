use Rattle.std.proofs.Common.{◌∙◌, refl}
use Rattle.std.proofs.lemmas.Simd.{length-zip2}
use Rattle.aes_block.proofs.Shifts.{bit-up_high, bit-up_low}
use Rattle.aes_block.proofs.planes.Plane.bits_up.Goals as goal

pub invariant_of-result : goal.invariant_of-result
invariant_of-result c = length-zip2 _ _ _ c.self.invariant ∙ c.self.invariant

pub returns-clause-low : goal.returns-clause-low
returns-clause-low c r column i low =
    bit-up_low _ (λ a b. refl) c.self.inside.lanes c.args.n r column i c.self.invariant c.requires low

pub returns-clause-high : goal.returns-clause-high
returns-clause-high c r column i within =
    rw (← c.self.view_is) (bit-up_high _ (λ a b. refl) c.self.inside.lanes c.args.n r column i c.self.invariant within)
