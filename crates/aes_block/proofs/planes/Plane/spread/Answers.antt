use Rattle.std.proofs.Common.{refl}
use Rattle.aes_block.proofs.Shifts.{bit-spread, length-spread}
use Rattle.aes_block.proofs.planes.Plane.spread.Goals as goal

pub invariant_of-result : goal.invariant_of-result
invariant_of-result c = length-spread _ _ _ _ c.self.inside.lanes c.args.k c.self.invariant

pub returns : goal.returns
returns c r column j row col within =
    rw (← c.self.view_is)
    (bit-spread _ _ _ _ (λ a b. refl) (λ a. refl) refl refl c.self.inside.lanes c.args.k r column j c.self.invariant row col within)
