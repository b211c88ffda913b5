use Rattle.std.proofs.Common.{refl}
use Rattle.aes_block.specs.InvSbox.{circuit}
use Rattle.aes_block.proofs.InvSbox.{circuit-bytes}
use Rattle.aes_block.proofs.inv_sbox.inv_substituted.Goals as goal

pub returns : goal.returns
unfolding circuit
returns c r c' j =
    circuit-bytes c.args.planes c.all_planes.result r c' j
    (rw (
      c.all_planes.ensures r c' j,
      c.four_planes-four.ensures r c' j,
      c.shared_sums-shared.ensures r c' j,
      c.products-left_products.ensures r c' j,
      c.products-right_products.ensures r c' j,
      c.multipliers-factors.ensures r c' j,
      c.norm_inverse.ensures r c' j,
      c.norm-norm.ensures r c' j,
      c.products.ensures r c' j,
      c.addends.ensures r c' j,
      c.right_factors-right.ensures r c' j,
      c.left_factors-left.ensures r c' j,
    )
    refl)
